-- What the law says of an accepted call, and that an epoch has one key for good.
use Rattle.std.proofs.Common.{◌≡◌, ℕ, ◌<◌, ◌≤◌, Bool, true, false, cond, not, eqb, ltb, leb, ◌⊎◌, List, [], ◌∷◌, ◌++◌, length, Some, None, Ok, Err, Option, Result, sym, refl, ap, ◌∙◌, subst, inl, inr, ⊎_elim, arith}
use native.Mathlib.Nat.{le-max_left, le-max_right}
use Rattle.std.proofs.lemmas.Bool.{eqb-true, leb-false, cases_lt}
use Rattle.std.specs.List.{ContainsAt as Has}
use Rattle.faults.specs.declared.WireFault.TheVariants.{ShortScratch, WrongLength, ShortOutlet}
use Rattle.faults.specs.declared.RingFault.{RingFault}
use Rattle.faults.specs.declared.RingFault.TheVariants.{NotAbove, AllOpen}
use Rattle.faults.specs.declared.GroupFault.{GroupFault}
use Rattle.faults.specs.declared.StationFault.{StationFault}
use Rattle.faults.specs.declared.StationFault.TheVariants.{Wire}
use Rattle.group.specs.Model.{Model}
use Rattle.messages.specs.Answers.{ruled}
use Rattle.messages.specs.Messages.{epoch_in}
use Rattle.messages.proofs.Ruled.{passes, same_answer}
use Rattle.token.specs.Tokens.{then, key_of, Good}
use Rattle.book.specs.Meaning.{Pair}
use Rattle.station.specs.Answers.{of_group, of_ring, opening, published}
use Rattle.station.specs.Issuing.{issue_answer}
use Rattle.station.specs.Redeeming.{redeemable}
use Rattle.history.specs.declared.calls.Call.{Call}
use Rattle.history.specs.declared.calls.Call.TheVariants.{Count, Open, Close, Issue, Redeem}
use Rattle.history.specs.Events.{Told, done, number, bytes, refused, Event, Deed, opens, closes, issues, accepts, nothing, deed, did}
use Rattle.history.specs.History.{pair_of, highest_after, highest, open_number, admission, Accepted, key_told, key_after, open_key, counted}
use Rattle.history.specs.Law.{bytes_told, drop_told, RedeemTells, Right, AllRight}
use Rattle.history.specs.Kept.{SoFar}
use Rattle.history.proofs.Steps.{no_answer, none_some, then_ok, ring_ok, group_ok}
use Rattle.history.proofs.Worth.{worth_in}

pub refused_done : {X : Type 0} {f : StationFault} → done ≡ refused f → X
refused_done p = let z : ◌≡◌ {A = ℕ} 0 1 = cc in absurd (omega arith)

refused_number : {X : Type 0} {f : StationFault} {n : ℕ} → number n ≡ refused f → X
refused_number p = let z : ◌≡◌ {A = ℕ} 0 1 = cc in absurd (omega arith)

bytes_ok : (r : Result (List ℕ) StationFault) (b : List ℕ) → bytes b ≡ bytes_told r → r ≡ Ok b
bytes_ok (Ok x) b e = let z : b ≡ x = cc in ap (λ v. Ok v) (sym z)
bytes_ok (Err f) b e = let z : ◌≡◌ {A = ℕ} 0 1 = cc in absurd (omega arith)

admitted : (h : List Event) (e : ℕ) → admission h e ≡ Ok tt → (highest h < e) × (open_number h < 4)
admitted h e p =
    let q = (passes ((leb e (highest h), NotAbove) ∷ (leb 4 (open_number h), AllOpen) ∷ []) (Ok tt) tt p).0 in
    (leb-false e (highest h) q.0, leb-false 4 (open_number h) q.1.0)

module _ {E S K : Type 0} (m : Model E S K) (places : ℕ) where
  pub law_at : (later before : List Event) (ev : Event) → SoFar m places (later ++ (ev ∷ before)) → Right m places before ev.call ev.answer
  law_at [] before ev l = l.0
  law_at (x ∷ later) before ev l = law_at later before ev l.1

  pub all_right : (h : List Event) → SoFar m places h → AllRight m places h
  all_right h l later before ev e = law_at later before ev (subst (SoFar m places) e l)

  pub law_rest : (later before : List Event) (ev : Event) → SoFar m places (later ++ (ev ∷ before)) → SoFar m places before
  law_rest [] before ev l = l.1
  law_rest (x ∷ later) before ev l = law_rest later before ev l.1

  -- what is known where a deed was done
  abbrev pub Apt : List Event → Deed → Type 0
  Apt before (opens e code) = (k : K) × (key_of m code ≡ Ok k) × (highest before < e) × (open_number before < 4)
  Apt before (closes e) = (k : K) × (open_key m before e ≡ Some k)
  Apt before (issues q p) = (scratch outlet : ℕ) × (nonce : List ℕ) × (issue_answer m scratch (open_key m before) q nonce outlet ≡ Ok p)
  Apt before (accepts t) =
      (k : K) × (open_key m before (epoch_in t) ≡ Some k) × Good m k (epoch_in t) t × (Has (counted m before) (pair_of t) → ⊥) × (length (counted m before) < places)
  Apt before nothing = Unit {0}

  published_ok : (r : Result K StationFault) (b : List ℕ) → published m r ≡ Ok b → (k : K) × (r ≡ Ok k)
  published_ok (Ok k) b e = (k, refl)
  published_ok (Err f) b e = no_answer e

  pub opening_ok : (scratch outlet : ℕ) (a : Result (Unit {0}) RingFault) (code : List ℕ) (k : K) → opening m scratch a code outlet ≡ Ok k → (key_of m code ≡ Ok k) × (a ≡ Ok tt)
  unfolding opening
  opening_ok scratch outlet a code k e =
      let last : K → Result K StationFault = λ x. ruled ((ltb outlet m.element_width, Wire ShortOutlet) ∷ []) (Ok x) in
      let next : K → Result K StationFault = λ x. then (of_ring a) (λ _. last x) in
      let p = (passes ((ltb scratch 1024, Wire ShortScratch) ∷ (not (eqb (length code) m.scalars.width), Wire WrongLength) ∷ []) (then (of_group (key_of m code)) next) k e).1 in
      let q = then_ok (of_group (key_of m code)) next k p in
      let r = then_ok (of_ring a) (λ _. last q.0) k q.2 in
      let s = (passes ((ltb outlet m.element_width, Wire ShortOutlet) ∷ []) (Ok q.0) k r.2).1 in
      (group_ok (key_of m code) q.0 q.1 ∙ ap (λ x. Ok x) (same_answer q.0 k s), ring_ok a tt r.1)

  apt_open : (before : List Event) (scratch epoch outlet : ℕ) (code : List ℕ) (b : List ℕ) →
      bytes b ≡ bytes_told (published m (opening m scratch (admission before epoch) code outlet)) → Apt before (opens epoch code)
  apt_open before scratch epoch outlet code b r =
      let p = published_ok (opening m scratch (admission before epoch) code outlet) b (bytes_ok (published m (opening m scratch (admission before epoch) code outlet)) b r) in
      let q = opening_ok scratch outlet (admission before epoch) code p.0 p.1 in
      let a = admitted before epoch q.1 in
      (p.0, q.0, a.0, a.1)

  apt_close : (before : List Event) (epoch n count : ℕ) (o : Option K) → open_key m before epoch ≡ o → number n ≡ drop_told o count → Apt before (closes epoch)
  apt_close before epoch n count (Some k) e r = (k, e)
  apt_close before epoch n count None e r = refused_number r

  pub apt_redeem : (before : List Event) (scratch : ℕ) (t : List ℕ) (r : Result Pair StationFault) → redeemable m scratch (open_key m before) t ≡ r →
      RedeemTells places (counted m before) r done → Apt before (accepts t)
  apt_redeem before scratch t (Ok p) e j =
      let w = worth_in m (open_key m before) scratch t p e in
      let new : Has (counted m before) p → ⊥ = λ h. refused_done (j.again h) in
      let room : length (counted m before) < places =
      ⊎_elim (λ (a : length (counted m before) < places). a) (λ (b : places ≤ length (counted m before)). refused_done (j.none_left new b)) (cases_lt (length (counted m before)) places) in
      (w.0, w.1, w.2, subst (λ x. Has (counted m before) x → ⊥) w.3 new, room)
  apt_redeem before scratch t (Err f) e j = refused_done j

  pub apt : (before : List Event) (c : Call) (o : Told) → Right m places before c o → Apt before (deed c o)
  apt before Count o r = tt
  apt before (Open scratch epoch key outlet) done r = tt
  apt before (Open scratch epoch key outlet) (number n) r = tt
  apt before (Open scratch epoch key outlet) (bytes b) r = apt_open before scratch epoch outlet key.now b r
  apt before (Open scratch epoch key outlet) (refused f) r = tt
  apt before (Close epoch) done r = tt
  apt before (Close epoch) (number n) r = apt_close before epoch n _ (open_key m before epoch) refl r
  apt before (Close epoch) (bytes b) r = tt
  apt before (Close epoch) (refused f) r = tt
  apt before (Issue scratch request nonce outlet) done r = tt
  apt before (Issue scratch request nonce outlet) (number n) r = tt
  apt before (Issue scratch request nonce outlet) (bytes p) r = (scratch, outlet, nonce.now, bytes_ok (issue_answer m scratch (open_key m before) request.now nonce.now outlet) p r)
  apt before (Issue scratch request nonce outlet) (refused f) r = tt
  apt before (Redeem scratch token) done r = apt_redeem before scratch token.now (redeemable m scratch (open_key m before) token.now) refl r
  apt before (Redeem scratch token) (number n) r = tt
  apt before (Redeem scratch token) (bytes b) r = tt
  apt before (Redeem scratch token) (refused f) r = tt

  -- ---- the epoch was opened under the key
  abbrev pub Opened : List Event → ℕ → K → Type 0
  Opened [] e k = ⊥
  Opened (ev ∷ before) e k = ((code : List ℕ) × (did ev ≡ opens e code) × (key_of m code ≡ Ok k)) ⊎ Opened before e k

  told_key : (r : Result K GroupFault) (k : K) → key_told m r ≡ Some k → r ≡ Ok k
  told_key (Ok x) k e = let z : x ≡ k = cc in ap (λ v. Ok v) z
  told_key (Err f) k e = none_some e

  opened_step : (before : List Event) (d : Deed) (e : ℕ) (k : K) (rest : Option K) → key_after m d e rest ≡ Some k → (rest ≡ Some k → Opened before e k) →
      ((code : List ℕ) × (d ≡ opens e code) × (key_of m code ≡ Ok k)) ⊎ Opened before e k
  opened_step before (opens x code) e k rest p ih =
      let P : Bool → Type 0 = λ b. eqb x e ≡ b → cond b (key_told m (key_of m code)) rest ≡ Some k → ((c : List ℕ) × (opens x code ≡ opens e c) × (key_of m c ≡ Ok k)) ⊎ Opened before e k in
      elim (eqb x e) as P [
        | true ↦ (λ q z. inl (code, ap (λ (n : ℕ). opens n code) (eqb-true x e q), told_key (key_of m code) k z))
        | false ↦ (λ q z. inr (ih z))
      ] refl p
  opened_step before (closes x) e k rest p ih =
      let P : Bool → Type 0 = λ b. cond b None rest ≡ Some k → ((c : List ℕ) × (closes x ≡ opens e c) × (key_of m c ≡ Ok k)) ⊎ Opened before e k in
      elim (eqb x e) as P [ true ↦ (λ z. none_some z) | false ↦ (λ z. inr (ih z)) ] p
  opened_step before (issues q r) e k rest p ih = inr (ih p)
  opened_step before (accepts t) e k rest p ih = inr (ih p)
  opened_step before nothing e k rest p ih = inr (ih p)

  pub open_opened : (h : List Event) (e : ℕ) (k : K) → open_key m h e ≡ Some k → Opened h e k
  open_opened [] e k p = none_some p
  open_opened (ev ∷ before) e k p = opened_step before (did ev) e k (open_key m before e) p (open_opened before e k)

  highest_grows : (d : Deed) (n : ℕ) → n ≤ highest_after d n
  highest_grows (opens e code) n = le-max_right e n
  highest_grows (closes e) n = omega arith
  highest_grows (issues q p) n = omega arith
  highest_grows (accepts t) n = omega arith
  highest_grows nothing n = omega arith

  pub opened_below : (h : List Event) (e : ℕ) (k : K) → Opened h e k → e ≤ highest h
  opened_below [] e k o = absurd o
  opened_below (ev ∷ before) e k (inl p) = subst (λ d. e ≤ highest_after d (highest before)) (sym p.1) (le-max_left e (highest before))
  opened_below (ev ∷ before) e k (inr o) = let a = opened_below before e k o in let b = highest_grows (did ev) (highest before) in omega arith

  -- an epoch that is open is not above the highest
  pub open_below : (h : List Event) (e : ℕ) (k : K) → open_key m h e ≡ Some k → e ≤ highest h
  open_below h e k p = opened_below h e k (open_opened h e k p)

  same_code : (e : ℕ) (a b : List ℕ) (d : Deed) → d ≡ opens e a → d ≡ opens e b → a ≡ b
  same_code e a b d p q = cc

  same_key : (a b : K) (r : Result K GroupFault) → r ≡ Ok a → r ≡ Ok b → a ≡ b
  same_key a b r p q = cc

  new_epoch : (before : List Event) (d : Deed) (e : ℕ) (code : List ℕ) → d ≡ opens e code → Apt before d → highest before < e
  new_epoch before d e code p a = (subst (Apt before) p a).2

  pub one_key : (h : List Event) → SoFar m places h → (e : ℕ) (j k : K) → Opened h e j → Opened h e k → j ≡ k
  one_key [] l e j k a b = absurd a
  one_key (ev ∷ before) l e j k (inl p) (inl q) =
      same_key j k (key_of m p.0) p.2 (ap (key_of m) (same_code e p.0 q.0 (did ev) p.1 q.1) ∙ q.2)
  one_key (ev ∷ before) l e j k (inl p) (inr b) =
      let up = new_epoch before (did ev) e p.0 p.1 (apt before ev.call ev.answer l.0) in
      let low = opened_below before e k b in absurd (omega arith)
  one_key (ev ∷ before) l e j k (inr a) (inl q) =
      let up = new_epoch before (did ev) e q.0 q.1 (apt before ev.call ev.answer l.0) in
      let low = opened_below before e j a in absurd (omega arith)
  one_key (ev ∷ before) l e j k (inr a) (inr b) = one_key before l.1 e j k a b

  -- an accepted token is good under the key of its epoch
  pub accepted_good : (h : List Event) → SoFar m places h → (t : List ℕ) → Accepted h t → (k : K) × Opened h (epoch_in t) k × Good m k (epoch_in t) t
  accepted_good [] l t a = absurd a
  accepted_good (ev ∷ before) l t (inl p) =
      let f = subst (Apt before) p (apt before ev.call ev.answer l.0) in
      (f.0, inr (open_opened before (epoch_in t) f.0 f.1), f.2)
  accepted_good (ev ∷ before) l t (inr a) = let f = accepted_good before l.1 t a in (f.0, inr f.1, f.2)
