-- A scratch above the length that suffices, and an outlet above the longest output, change no answer.
use Rattle.std.proofs.Common.{◌≡◌, ℕ, ◌-◌, ◌<◌, ◌≤◌, min, Bool, not, eqb, ltb, List, [], ◌∷◌, ◌++◌, length, take, drop, Ok, Err, Option, Result, sym, refl, ap, ◌∙◌, ⊎_elim, append_assoc, arith, length-take-le, take_all}
use native.Mathlib.Nat.{min-eq_left, min-eq_right, min-le_right}
use Rattle.std.proofs.lemmas.Nat.{mul-le}
use Rattle.std.proofs.lemmas.List.{take_at}
use Rattle.std.proofs.lemmas.Bool.{le-ltb, cases_lt}
use Rattle.std.specs.Option.{ok_or}
use Rattle.faults.specs.declared.WireFault.{WireFault}
use Rattle.faults.specs.declared.WireFault.TheVariants.{ShortScratch, WrongLength, WrongType, ShortOutlet}
use Rattle.faults.specs.declared.RingFault.{RingFault}
use Rattle.faults.specs.declared.RingFault.TheVariants.{NotOpen}
use Rattle.faults.specs.declared.StationFault.{StationFault}
use Rattle.faults.specs.declared.StationFault.TheVariants.{Wire}
use Rattle.group.specs.Model.{Model}
use Rattle.messages.specs.Answers.{ruled, over}
use Rattle.messages.specs.Messages.{Batch, read_request, read_token, reply_length, place}
use Rattle.messages.proofs.Trips.{request_told}
use Rattle.token.specs.Tokens.{then, key_of}
use Rattle.station.specs.Answers.{of_wire, of_ring, of_group, of_batch, counted, outlet_after, opening}
use Rattle.station.specs.Issuing.{Order, accepted, replied, issue_answer}
use Rattle.station.specs.Redeeming.{redeemable, authentic}
use Rattle.history.specs.Events.{bytes, refused}
use Rattle.history.specs.Law.{bytes_told}

-- a bound that is at least what is asked for
bounded : (n most need : ℕ) → need ≤ most → ltb (min n most) need ≡ ltb n need
bounded n most need h =
    ⊎_elim
    (λ (low : n < most). ap (λ (x : ℕ). ltb x need) (min-eq_left (let l = low in omega arith)))
    (λ (high : most ≤ n). ap (λ (x : ℕ). ltb x need) (min-eq_right high) ∙ le-ltb most need h ∙ sym (le-ltb n need (omega arith)))
    (cases_lt n most)

module _ {E S K : Type 0} (m : Model E S K) where
  pub opening_bounded : (scratch outlet s o : ℕ) (a : Result (Unit {0}) RingFault) (code : List ℕ) → s ≡ min scratch 1024 → o ≡ min outlet 137 →
      opening m s a code o ≡ opening m scratch a code outlet
  unfolding opening
  opening_bounded scratch outlet s o a code es eo =
      let w = m.element_width in
      let fits = m.element_fits in
      let last : Bool → K → Result K StationFault = λ b x. ruled ((b, Wire ShortOutlet) ∷ []) (Ok x) in
      let whole : Bool → Bool → Result K StationFault = λ t b.
      ruled ((t, Wire ShortScratch) ∷ (not (eqb (length code) m.scalars.width), Wire WrongLength) ∷ [])
      (then (of_group (key_of m code)) (λ x. then (of_ring a) (λ _. last b x))) in
      let first : ltb s 1024 ≡ ltb scratch 1024 = ap (λ (x : ℕ). ltb x 1024) es ∙ bounded scratch 1024 1024 (omega arith) in
      let second : ltb o w ≡ ltb outlet w = ap (λ (x : ℕ). ltb x w) eo ∙ bounded outlet 137 w (omega arith) in
      ap (λ t. whole t (ltb o w)) first ∙ ap (whole (ltb scratch 1024)) second

  reply_small : (n : ℕ) → n ≤ 16 → reply_length m n ≤ 137
  unfolding reply_length place
  reply_small n few =
      let a = mul-le n m.element_width 16 8 few m.element_fits in
      let b = m.scalars.wide in omega arith

  module _ (scratch outlet s o : ℕ) (key : ℕ → Option K) (q nonce : List ℕ) (es : s ≡ min scratch 1024) (eo : o ≡ min outlet 137) where
    room_for : ℕ → Batch → Bool
    room_for n b = ltb n (reply_length m b.count)

    rest : Batch → Bool → Result (Order K) StationFault
    rest b t =
        then (of_ring (ok_or (key b.epoch) NotOpen)) (λ k.
        ruled ((not (eqb (length nonce) m.scalars.width), Wire WrongLength) ∷ [])
        (then (of_group (key_of m nonce)) (λ u.
        ruled ((t, Wire ShortOutlet) ∷ []) (Ok (record { batch = b; key = k; nonce = u })))))

    by_request : (r : Result Batch WireFault) → read_request m q ≡ r → then (of_wire r) (λ b. rest b (room_for o b)) ≡ then (of_wire r) (λ b. rest b (room_for outlet b))
    unfolding room_for
    by_request (Ok b) e =
        let few = (request_told m q b e).3 in
        ap (rest b) (ap (λ (x : ℕ). ltb x (reply_length m b.count)) eo ∙ bounded outlet 137 (reply_length m b.count) (reply_small b.count few))
    by_request (Err f) e = refl

    accepted_bounded : accepted m s key q nonce o ≡ accepted m scratch key q nonce outlet
    unfolding accepted rest room_for
    accepted_bounded =
        let first : ltb s 1024 ≡ ltb scratch 1024 = ap (λ (x : ℕ). ltb x 1024) es ∙ bounded scratch 1024 1024 (omega arith) in
        ap (λ t. ruled ((t, Wire ShortScratch) ∷ []) (then (of_wire (read_request m q)) (λ b. rest b (room_for o b)))) first
        ∙ ap (λ x. ruled ((ltb scratch 1024, Wire ShortScratch) ∷ []) x) (by_request (read_request m q) refl)

    pub issue_bounded : issue_answer m s key q nonce o ≡ issue_answer m scratch key q nonce outlet
    unfolding issue_answer
    issue_bounded = ap (λ r. then r (λ x. of_batch (replied m x))) accepted_bounded

  pub redeem_bounded : (scratch s : ℕ) (key : ℕ → Option K) (t : List ℕ) → s ≡ min scratch 1024 → redeemable m s key t ≡ redeemable m scratch key t
  unfolding redeemable
  redeem_bounded scratch s key t es =
      let first : ltb s 1024 ≡ ltb scratch 1024 = ap (λ (x : ℕ). ltb x 1024) es ∙ bounded scratch 1024 1024 (omega arith) in
      ap (λ c. ruled ((c, Wire ShortScratch) ∷ []) (then (of_wire (read_token t)) (λ p.
      ruled ((not (eqb p.kind m.kind), Wire WrongType) ∷ [])
      (then (of_ring (ok_or (key p.epoch) NotOpen)) (λ k.
      then (authentic m k p.key_id p.authenticator (take 100 t)) (λ _.
      Ok (p.epoch, p.nonce))))))) first

pub cut_to : (n k most : ℕ) (xs : List ℕ) → length xs ≡ most → k ≡ min n most → take (k - 0) xs ≡ take n xs
cut_to n k most xs long e =
    ⊎_elim
    (λ (low : n < most). ap (λ (x : ℕ). take x xs) (let c : min n most ≡ n = min-eq_left (let l = low in omega arith) in omega arith))
    (λ (high : most ≤ n). let c : min n most ≡ most = min-eq_right high in take_all (k - 0) xs (omega arith) ∙ sym (take_all n xs (omega arith)))
    (cases_lt n most)

pub lent : (n k most : ℕ) (xs : List ℕ) → length xs ≡ most → k ≡ min n most → length (take (k - 0) xs) ≡ min n most
lent n k most xs long e = let h = min-le_right n most in length-take-le (k - 0) xs (omega arith) ∙ omega arith

-- ---- what was written, out of the outlet
pub laid_told : (x : Result (List ℕ) StationFault) (len : ℕ) (old last more : List ℕ) → Ok len ≡ counted x → last ≡ outlet_after x old →
    bytes (take len (last ++ more)) ≡ bytes_told x
unfolding over
laid_told (Ok p) len old last more e l =
    let long : len ≡ length p = cc in
    ap (λ y. bytes (take len (y ++ more))) l ∙ ap (λ y. bytes (take len y)) (append_assoc p (drop (length p) old) more) ∙ ap bytes (take_at p (drop (length p) old ++ more) len (sym long))
laid_told (Err f) len old last more e l = let z : ◌≡◌ {A = ℕ} 0 1 = cc in absurd (omega arith)

pub fault_told : (x : Result (List ℕ) StationFault) (f : StationFault) → Err f ≡ counted x → refused f ≡ bytes_told x
fault_told (Ok p) f e = let z : ◌≡◌ {A = ℕ} 0 1 = cc in absurd (omega arith)
fault_told (Err g) f e = let z : f ≡ g = cc in ap refused z
