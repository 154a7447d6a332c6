-- What a shop sent fits every token of the epoch, and a redeem accepts exactly the tokens that it must.
use Rattle.std.proofs.Common.{◌≡◌, ℕ, ◌≤◌, List, [], ◌∷◌, take, drop, Some, Ok, Err, Result, sym, refl, ap, ◌∙◌, subst, inl, inr, arith}
use Rattle.std.specs.List.{ContainsAt as Has}
use Rattle.faults.specs.declared.StationFault.{StationFault}
use Rattle.group.specs.Model.{Model}
use Rattle.group.proofs.Laws.{unblinds, one_scalar}
use Rattle.hashing.specs.Hashing.{hash_to_group, authenticator}
use Rattle.voprf.specs.Blinding.{blinded, answered, unblinded, direct}
use Rattle.messages.specs.Messages.{Parts, epoch_in}
use Rattle.token.specs.Tokens.{Good}
use Rattle.book.specs.Meaning.{Pair, Exactly}
use Rattle.book.proofs.Sets.{has_kept, kept_has}
use Rattle.station.specs.Redeeming.{redeemable}
use Rattle.history.specs.declared.calls.Call.TheVariants.{Count, Redeem}
use Rattle.history.specs.Events.{Told, done, Event, event}
use Rattle.history.specs.History.{pair_of, spent, present, Issued, open_key, counted}
use Rattle.history.specs.Law.{Item, Answered, Beside, Turns, Unlinkable, Judged, RedeemTells, Worthy, RedeemsOnce, Counts}
use Rattle.history.specs.Kept.{SoFar}
use Rattle.history.proofs.Worth.{read_is, worth_in, worth_out}
use Rattle.history.proofs.Deeds.{all_right, Apt, apt, Opened, open_opened, one_key, accepted_good, refused_done, apt_redeem}
use Rattle.history.proofs.Items.{Real, Replied, issue_ok, answer_at}

module _ {E S K : Type 0} (m : Model E S K) (places : ℕ) where
  -- an accepted issue, and the keys that were open then
  issued_replied : (h : List Event) → SoFar m places h → (q p : List ℕ) → Issued h q p →
      (before : List Event) × Replied m (open_key m before) q p × ((e : ℕ) (k : K) → open_key m before e ≡ Some k → Opened m places h e k)
  issued_replied [] l q p i = absurd i
  issued_replied (ev ∷ before) l q p (inl e) =
      let f = subst (Apt m places before) e (apt m places before ev.call ev.answer l.0) in
      (before, issue_ok m f.0 f.1 (open_key m before) q f.2 p f.3, λ x k o. inr (open_opened m places before x k o))
  issued_replied (ev ∷ before) l q p (inr i) =
      let f = issued_replied before l.1 q p i in (f.0, f.1, λ x k o. inr (f.2 x k o))

  item_answered : (h : List Event) → SoFar m places h → (x : Item E) → Answered m h x →
      (k : K) × Opened m places h x.epoch k × (x.got ≡ answered m k x.sent) × Real m x.sent
  item_answered h l x (q, p, i, at) =
      let f = issued_replied h l q p i in
      let a = answer_at m (open_key m f.0) q p f.1 at.0 x.sent x.got at.1 at.3 at.4 in
      (f.1.k, f.2 x.epoch f.1.k (ap (open_key m f.0) (sym at.2) ∙ a.0), a.1, a.2)

  told_authentic : (k : K) (e : ℕ) (t : List ℕ) → Good m k e t → take 32 (drop 100 t) ≡ direct m k (take 100 t)
  told_authentic k e t g = ap (λ (p : Parts). p.authenticator) (read_is t g.parts g.reads) ∙ g.authentic

  -- one pair: a token and an item under one key
  one_blind : (k : K) (t : List ℕ) (e : ℕ) (x : Item E) → Good m k e t → x.got ≡ answered m k x.sent → Real m x.sent →
      (r : K) × (blinded m r (take 100 t) ≡ x.sent) × ((j : K) → blinded m j (take 100 t) ≡ x.sent → j ≡ r)
      × (authenticator m (take 100 t) (unblinded m r x.got) ≡ take 32 (drop 100 t))
  unfolding blinded answered unblinded direct
  one_blind k t e x g got real =
      let s = one_scalar m (hash_to_group m (take 100 t)) x.sent g.mapped real in (
        s.0,
        s.1,
        s.2,
        ap (λ y. authenticator m (take 100 t) (unblinded m s.0 y)) (got ∙ ap (answered m k) (sym s.1))
            ∙ ap (authenticator m (take 100 t)) (unblinds m s.0 (m.scalars.part k) (hash_to_group m (take 100 t)))
            ∙ sym (told_authentic k e t g),
      )

  beside_blind : (h : List Event) → SoFar m places h → (y : List ℕ × Item E) → Beside m h y →
      (r : K) × (blinded m r (take 100 y.0) ≡ y.1.sent) × ((j : K) → blinded m j (take 100 y.0) ≡ y.1.sent → j ≡ r)
      × (authenticator m (take 100 y.0) (unblinded m r y.1.got) ≡ take 32 (drop 100 y.0))
  beside_blind h l y b =
      let f = accepted_good m places h l y.0 b.accepted in
      let g = item_answered h l y.1 b.answered in
      let same = one_key m places h l y.1.epoch g.0 f.0 g.1 (subst (λ (e : ℕ). Opened m places h e f.0) b.same_epoch f.1) in
      one_blind f.0 y.0 (epoch_in y.0) y.1 f.2 (g.2 ∙ ap (λ k. answered m k y.1.sent) same) g.3

  only_none : (rs : List K) → Turns m rs [] → rs ≡ []
  only_none [] t = refl
  only_none (r ∷ rs) t = absurd t

  only_more : (y : List ℕ × Item E) (ys : List (List ℕ × Item E)) (r : K) (bs rs : List K) → ((j : K) → blinded m j (take 100 y.0) ≡ y.1.sent → j ≡ r) →
      ((qs : List K) → Turns m qs ys → qs ≡ bs) → Turns m rs (y ∷ ys) → rs ≡ r ∷ bs
  only_more y ys r bs [] one rest t = absurd t
  only_more y ys r bs (j ∷ qs) one rest t = let a = one j t.0 in let b = rest qs t.1 in cc

  pub unlinkable : (h : List Event) → SoFar m places h → Unlinkable m h
  unlinkable h l [] a = record { blinds = []; turns = tt; only = only_none; unblinds = tt }
  unlinkable h l (y ∷ ys) a =
      let f = beside_blind h l y a.0 in
      let r = unlinkable h l ys a.1 in
      record {
        blinds = f.0 ∷ r.blinds;
        turns = (f.1, r.turns);
        only = λ rs t. only_more y ys f.0 r.blinds rs f.2 r.only t;
        unblinds = (f.3, r.unblinds);
      }

  -- ---- redeem
  in_use : (h : List Event) (k : K) (t : List ℕ) → open_key m h (epoch_in t) ≡ Some k → Has (spent h) (pair_of t) → Has (counted m h) (pair_of t)
  in_use h k t o s = kept_has (λ p. present (open_key m h p.0)) (spent h) (pair_of t) (ap present o) s

  accepts_right : (before : List Event) (scratch : ℕ) (t : List ℕ) (o : Told) (r : Result Pair StationFault) → redeemable m scratch (open_key m before) t ≡ r →
      RedeemTells places (counted m before) r o → 1024 ≤ scratch → Exactly (o ≡ done) (Worthy m places before t)
  accepts_right before scratch t o (Ok p) e j room =
      let w = worth_in m (open_key m before) scratch t p e in (
        λ d.
            let f = apt_redeem m places before scratch t (Ok p) e (subst (Judged places (counted m before) p) d j) in
            record { key = f.0; open_epoch = f.1; good = f.2; never = λ s. f.3 (in_use before f.0 t f.1 s); place_free = f.4 },
        λ y. j.fresh (λ h. y.never (has_kept (λ x. present (open_key m before x.0)) (spent before) (pair_of t) (subst (Has (counted m before)) w.3 h))) y.place_free,
      )
  accepts_right before scratch t o (Err f) e j room = (
    λ d. refused_done (sym d ∙ j),
    λ y. let z = sym (worth_out m (open_key m before) scratch t y.key room y.open_epoch y.good) ∙ e in let n : ◌≡◌ {A = ℕ} 0 1 = cc in absurd (omega arith),
  )

  pub redeems_once : (h : List Event) → SoFar m places h → RedeemsOnce m places h
  redeems_once h l later before scratch token o e room =
      accepts_right before scratch token.now o (redeemable m scratch (open_key m before) token.now) refl (all_right m places h l later before (event (Redeem scratch token) o) e) room

  pub counts : (h : List Event) → SoFar m places h → Counts m h
  counts h l later before o e = all_right m places h l later before (event Count o) e
