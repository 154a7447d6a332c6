-- What an accepted order, a read token and an opening say of the checks before them.
use Rattle.std.proofs.Common.{◌≡◌, ℕ, ◌<◌, ◌≤◌, not, eqb, ltb, List, [], ◌∷◌, length, Ok, Err, Option, Result, sym, refl, ap, ◌∙◌, arith}
use Rattle.std.proofs.lemmas.Bool.{le-ltb, lt-ltb}
use Rattle.std.specs.Option.{ok_or}
use Rattle.faults.specs.declared.WireFault.TheVariants.{ShortScratch, WrongLength, ShortOutlet}
use Rattle.faults.specs.declared.RingFault.{RingFault}
use Rattle.faults.specs.declared.RingFault.TheVariants.{NotOpen}
use Rattle.faults.specs.declared.GroupFault.{GroupFault}
use Rattle.faults.specs.declared.StationFault.{StationFault}
use Rattle.faults.specs.declared.StationFault.TheVariants.{Wire, Group}
use Rattle.group.specs.Model.{Model}
use Rattle.messages.specs.Answers.{ruled}
use Rattle.messages.specs.Messages.{Batch, Parts, read_request, read_token, reply_length, token_in}
use Rattle.messages.proofs.Ruled.{passed, stopped, passes, equal_passes, passed_equal}
use Rattle.token.specs.Tokens.{then, key_of}
use Rattle.station.specs.Answers.{of_wire, of_ring, of_group, opening}
use Rattle.station.specs.Issuing.{Order, accepted}

-- a fault is no answer
pub never : {X T F : Type 0} (x : T) (f : F) → ◌≡◌ {A = Result T F} (Err f) (Ok x) → X
never x f e = let z : ◌≡◌ {A = ℕ} 0 1 = cc in absurd (omega arith)

-- a token that is read has 132 bytes
pub token_long : (bytes : List ℕ) (p : Parts) → Ok p ≡ read_token bytes → length bytes ≡ 132
unfolding read_token
token_long bytes p e =
    passed_equal (length bytes) 132 (passes ((not (eqb (length bytes) 132), WrongLength) ∷ []) (Ok (token_in bytes)) p (sym e)).0.0

module _ {E S K : Type 0} (m : Model E S K) (scratch : ℕ) (key : ℕ → Option K) (request nonce : List ℕ) (outlet : ℕ) where
  last : Batch → K → K → Result (Order K) StationFault
  last b k u = ruled ((ltb outlet (reply_length m b.count), Wire ShortOutlet) ∷ []) (Ok (record { batch = b; key = k; nonce = u }))

  with_key : Batch → K → Result (Order K) StationFault
  with_key b k = ruled ((not (eqb (length nonce) m.scalars.width), Wire WrongLength) ∷ []) (then (of_group (key_of m nonce)) (last b k))

  with_batch : Batch → Result (Order K) StationFault
  with_batch b = then (of_ring (ok_or (key b.epoch) NotOpen)) (with_key b)

  module _ (b : Batch) (k : K) (room : 1024 ≤ scratch) (reads : Ok b ≡ read_request m request) (held : Ok k ≡ ok_or (key b.epoch) NotOpen)
      (long : length nonce ≡ m.scalars.width) where
    keyed : accepted m scratch key request nonce outlet ≡ then (of_group (key_of m nonce)) (last b k)
    unfolding accepted with_batch with_key last
    keyed =
        passed ((ltb scratch 1024, Wire ShortScratch) ∷ []) (then (of_wire (read_request m request)) with_batch) (le-ltb scratch 1024 room, tt)
        ∙ ap (λ r. then (of_wire r) with_batch) (sym reads)
        ∙ ap (λ r. then (of_ring r) (with_key b)) (sym held)
        ∙ passed ((not (eqb (length nonce) m.scalars.width), Wire WrongLength) ∷ []) (then (of_group (key_of m nonce)) (last b k))
        (equal_passes (length nonce) m.scalars.width long, tt)

    pub bad_nonce : (f : GroupFault) → Err f ≡ key_of m nonce → accepted m scratch key request nonce outlet ≡ Err (Group f)
    bad_nonce f e = keyed ∙ ap (λ r. then (of_group r) (last b k)) (sym e)

    pub short_outlet : (u : K) → Ok u ≡ key_of m nonce → outlet < reply_length m b.count → accepted m scratch key request nonce outlet ≡ Err (Wire ShortOutlet)
    unfolding last
    short_outlet u e short =
        keyed ∙ ap (λ r. then (of_group r) (last b k)) (sym e)
        ∙ stopped (ltb outlet (reply_length m b.count), Wire ShortOutlet) [] (Ok (record { batch = b; key = k; nonce = u })) (lt-ltb outlet (reply_length m b.count) short)

    pub all_passed : (u : K) → Ok u ≡ key_of m nonce → reply_length m b.count ≤ outlet →
        accepted m scratch key request nonce outlet ≡ Ok (record { batch = b; key = k; nonce = u })
    unfolding last
    all_passed u e fits =
        keyed ∙ ap (λ r. then (of_group r) (last b k)) (sym e)
        ∙ passed ((ltb outlet (reply_length m b.count), Wire ShortOutlet) ∷ []) (Ok (record { batch = b; key = k; nonce = u })) (le-ltb outlet (reply_length m b.count) fits, tt)

-- a step that answered, and what came of it
after_ok : {T U F : Type 0} (r : Result T F) (next : T → Result U F) (v : U) → then r next ≡ Ok v → (x : T) × (r ≡ Ok x) × (next x ≡ Ok v)
after_ok (Ok x) next v e = (x, refl, e)
after_ok (Err f) next v e = never v f e

admitted : {K : Type 0} (a : Result (Unit {0}) RingFault) (next : Unit {0} → Result K StationFault) (k : K) → then (of_ring a) next ≡ Ok k → a ≡ Ok tt
admitted (Ok u) next k e = refl
admitted (Err f) next k e = never k _ e

-- a key is given only where the ring admits the epoch
pub opening_admits : {E S K : Type 0} (m : Model E S K) (scratch : ℕ) (a : Result (Unit {0}) RingFault) (code : List ℕ) (outlet : ℕ) (k : K) →
    Ok k ≡ opening m scratch a code outlet → a ≡ Ok tt
unfolding opening
opening_admits {E} {S} {K} m scratch a code outlet k e =
    let end : K → Result K StationFault = λ x. ruled ((ltb outlet m.element_width, Wire ShortOutlet) ∷ []) (Ok x) in
    let onward : K → Result K StationFault = λ x. then (of_ring a) (λ _. end x) in
    let front = passes ((ltb scratch 1024, Wire ShortScratch) ∷ (not (eqb (length code) m.scalars.width), Wire WrongLength) ∷ [])
    (then (of_group (key_of m code)) onward) k (sym e) in
    let step = after_ok (of_group (key_of m code)) onward k front.1 in
    admitted a (λ _. end step.0) k step.2
