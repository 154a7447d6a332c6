-- The blind steps: what shop and station compute of a token's input.
use Rattle.std.specs.Prelude.{◌≡◌, ℕ, List, ◌≢◌}
use Rattle.group.specs.Model.{Model}
use Rattle.group.specs.Elements.{null, base_multiple, multiple}
use Rattle.hashing.specs.Hashing.{hash_to_group, authenticator}

module _ {E S K : Type 0} (m : Model E S K) where
  -- the public key of a key
  unfoldable pub public_key : K → E
  public_key k = base_multiple m (m.scalars.part k)

  -- what a shop sends for an input, under a blind
  unfoldable pub blinded : K → List ℕ → E
  blinded r input = multiple m (m.scalars.part r) (hash_to_group m input)

  -- what a station answers to an element
  unfoldable pub answered : K → E → E
  answered k b = multiple m (m.scalars.part k) b

  -- what a shop makes of an answer, under the blind that it sent with
  unfoldable pub unblinded : K → E → E
  unblinded r e = multiple m (m.scalars.inverse (m.scalars.part r)) e

  -- the authenticator of an input by the key itself
  unfoldable pub direct : K → List ℕ → List ℕ
  direct k input = authenticator m input (multiple m (m.scalars.part k) (hash_to_group m input))

-- What the steps are for: unblinding an answer gives the authenticator that the key gives directly, for every
-- key, blind and input.
abbrev pub UnblindingGivesDirect : {E S K : Type 0} → Model E S K → Type 0
UnblindingGivesDirect {E} {S} {K} m =
    (k r : K) (input : List ℕ) → authenticator m input (unblinded m r (answered m k (blinded m r input))) ≡ direct m k input

-- A blinded element says nothing of its input: whatever element was sent, for each input that does not map to the
-- null exactly one blind would have sent it.
abbrev pub EveryInputFits : {E S K : Type 0} → Model E S K → Type 0
EveryInputFits {E} {S} {K} m =
    (b : E) (input : List ℕ) → (b ≢ null m) → (hash_to_group m input ≢ null m)
    → (r : K) × (blinded m r input ≡ b) × ((q : K) → blinded m q input ≡ b → q ≡ r)
