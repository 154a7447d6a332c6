-- The batch proof: that one key answered every item of a batch.
use Rattle.std.specs.Prelude.{◌≡◌, ℕ, zero, suc, ◌+◌, ◌*◌, ◌/◌, ◌≤◌, Bool, cond, ◌&&◌, List, ◌++◌, map, length, take, drop, Some, None, Ok, Err, codes, Option, Result, ◌==◌, nat_le}
use Rattle.faults.specs.declared.WireFault.TheVariants.{WrongLength}
use Rattle.faults.specs.declared.GroupFault.TheVariants.{NoElement}
use Rattle.faults.specs.declared.BatchFault.{BatchFault}
use Rattle.faults.specs.declared.BatchFault.TheVariants.{Wire as BatchWire, Item as BatchItem, BadProof}
use Rattle.digest.specs.Sha256.{sha256}
use Rattle.scalar.specs.Scalars.{subtracted, multiplied}
use Rattle.group.specs.Model.{Model}
use Rattle.group.specs.Elements.{null, sum, base_multiple, multiple}
use Rattle.numbers.specs.Bytes.{two_bytes}
use Rattle.hashing.specs.Hashing.{context_string, framed_code, framed, hash_to_scalar}
use Rattle.group.specs.Theorems.{row}
use Rattle.voprf.specs.Blinding.{public_key, answered}

-- the next step, or the fault
abbrev pub then : {T U : Type 0} → Result T BatchFault → (T → Result U BatchFault) → Result U BatchFault
then (Ok x) next = next x
then (Err e) next = Err e

module _ {E S K : Type 0} (m : Model E S K) where
  -- what all weights of a batch begin with: a hash of the public key
  unfoldable pub seed : E → List ℕ
  seed pk = sha256 (framed m pk ++ (two_bytes (length (codes "Seed-" ++ context_string m)) ++ (codes "Seed-" ++ context_string m)))

  -- the weight of an item, counted from 0: of its place and of its two codes
  unfoldable pub weight : List ℕ → ℕ → List ℕ → List ℕ → S
  weight s i b e = hash_to_scalar m (two_bytes 32 ++ (s ++ (two_bytes i ++ (framed_code m b ++ (framed_code m e ++ codes "Composite")))))

  -- the element of a code, or the fault of the item, which counts from 1 there
  abbrev pub read_item : ℕ → Option E → Result E BatchFault
  read_item i None = Err (BatchItem (i + 1) NoElement)
  read_item i (Some p) = Ok p

  -- one item more in both sums, each time with the item's weight
  unfoldable pub step : List ℕ → ℕ → List ℕ → List ℕ → E × E → Result (E × E) BatchFault
  step s i b e sums =
      then (read_item i (m.element b)) (λ sent.
      then (read_item i (m.element e)) (λ got.
      Ok (sum m sums.0 (multiple m (weight s i b e) sent), sum m sums.1 (multiple m (weight s i b e) got))))

  -- the items from place i on, n of them, added to the sums so far
  unfoldable pub steps : List ℕ → ℕ → ℕ → List ℕ → List ℕ → E × E → Result (E × E) BatchFault
  steps s i zero bs es sums = Ok sums
  steps s i (suc n) bs es sums =
      then (step s i (take m.element_width bs) (take m.element_width es) sums)
      (steps s (i + 1) n (drop m.element_width bs) (drop m.element_width es))

  -- as many items as codes fit
  abbrev pub count : List ℕ → ℕ
  count items = length items / m.element_width

  -- the two rows have the same number of whole codes, at most 16
  abbrev pub paired : List ℕ → List ℕ → Bool
  paired bs es = length bs == count bs * m.element_width && (length es == length bs && nat_le (count bs) 16)

  -- M and W: the weighted sums of what was sent and of what was answered
  unfoldable pub composites : E → List ℕ → List ℕ → Result (E × E) BatchFault
  composites pk bs es =
      cond (paired bs es) (steps (seed pk) 0 (count bs) bs es (null m, null m)) (Err (BatchWire WrongLength))

  -- the hash that ties a proof to its key, its composites and its two commitments
  unfoldable pub challenge : E → E → E → E → E → S
  challenge pk sent got t2 t3 =
      hash_to_scalar m (framed m pk ++ (framed m sent ++ (framed m got ++ (framed m t2 ++ (framed m t3 ++ codes "Challenge")))))

  -- a proof: the challenge and the response
  unfoldable pub proof_of : K → K → E → E × E → S × S
  proof_of k u pk mw =
      let c = challenge pk mw.0 mw.1 (base_multiple m (m.scalars.part u)) (multiple m (m.scalars.part u) mw.0) in
      (c, subtracted m.scalars (m.scalars.part u) (multiplied m.scalars c (m.scalars.part k)))

  -- what the prover answers for a key, a nonce and a batch
  unfoldable pub proved : K → K → E → List ℕ → List ℕ → Result (S × S) BatchFault
  proved k u pk bs es = then (composites pk bs es) (λ mw. Ok (proof_of k u pk mw))

  -- the challenge that a proof leads back to
  unfoldable pub rechallenge : E → E × E → S × S → S
  rechallenge pk mw p =
      challenge pk mw.0 mw.1
      (sum m (base_multiple m p.1) (multiple m p.0 pk))
      (sum m (multiple m p.1 mw.0) (multiple m p.0 mw.1))

  -- a proof passes where that is its own challenge
  abbrev pub Passes : E → E × E → S × S → Type 0
  Passes pk mw p = rechallenge pk mw p ≡ p.0

  -- what the check answers
  abbrev pub same_number : S → S → Bool
  same_number s t = m.scalars.number s == m.scalars.number t

  unfoldable pub checked : E → List ℕ → List ℕ → S × S → Result (Unit {0}) BatchFault
  checked pk bs es p = then (composites pk bs es) (λ mw. cond (same_number (rechallenge pk mw p) p.0) (Ok tt) (Err BadProof))

-- What the prover makes passes the check: for every key, nonce and batch of at most 16 elements that the key
-- answered.
abbrev pub ProofsPass : {E S K : Type 0} → Model E S K → Type 0
ProofsPass {E} {S} {K} m =
    (k u : K) (ps : List E) → length ps ≤ 16 →
    let pk = public_key m k in
    let bs = row m ps in
    let es = row m (map (answered m k) ps) in
    (p : S × S) × (proved m k u pk bs es ≡ Ok p) × (checked m pk bs es p ≡ Ok tt)
