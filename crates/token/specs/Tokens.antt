-- What a token is under a key, and what the calls about one token answer.
use Rattle.std.specs.Prelude.{◌≡◌, ℕ, Bool, not, List, [], ◌∷◌, length, take, Ok, Err, Result, ◌==◌, nat_lt}
use Rattle.std.specs.Option.{ok_or}
use Rattle.faults.specs.declared.WireFault.TheVariants.{ShortScratch, WrongLength}
use Rattle.faults.specs.declared.GroupFault.{GroupFault}
use Rattle.faults.specs.declared.GroupFault.TheVariants.{NoElement, NullElement, NoScalar, NullInput}
use Rattle.faults.specs.declared.BatchFault.{BatchFault}
use Rattle.faults.specs.declared.BatchFault.TheVariants.{Wire, Group}
use Rattle.scalar.specs.Scalars.{scalar_of}
use Rattle.group.specs.Model.{Model}
use Rattle.group.specs.Elements.{null}
use Rattle.hashing.specs.Hashing.{hash_to_group, key_id}
use Rattle.voprf.specs.Blinding.{public_key, direct}
use Rattle.messages.specs.Answers.{ruled}
use Rattle.messages.specs.Messages.{Parts, token_input_bytes, read_token}

-- the next step, or the fault
abbrev pub then : {T U F : Type 0} → Result T F → (T → Result U F) → Result U F
then (Ok x) next = next x
then (Err e) next = Err e

module _ {E S K : Type 0} (m : Model E S K) where
  -- whether an element is the null: told by logarithms
  abbrev pub is_null : E → Bool
  is_null p = m.log p == 0

  -- an element that is not the null, of its code
  unfoldable pub element_of : List ℕ → Result E GroupFault
  element_of code = then (ok_or (m.element code) NoElement) (λ p. ruled ((is_null p, NullElement) ∷ []) (Ok p))

  -- a scalar that is not zero, of its code
  unfoldable pub key_of : List ℕ → Result K GroupFault
  key_of code = then (ok_or (scalar_of m.scalars code) NoScalar) (λ s. ok_or (m.scalars.nonzero s) NoScalar)

  -- the input of a token under a public key
  unfoldable pub token_input : ℕ → List ℕ → List ℕ → E → List ℕ
  token_input epoch nonce context pk = token_input_bytes m.kind epoch nonce context (key_id m pk)

  -- A token is good under a key and an epoch: its type, epoch and key id fit, its input does not map to the null,
  -- and its authenticator is the key's own.
  pub record Good (k : K) (epoch : ℕ) (bytes : List ℕ) : Type 0 where
    pub parts : Parts
    pub reads : read_token bytes ≡ Ok parts
    pub kind_fits : parts.kind ≡ m.kind
    pub epoch_fits : parts.epoch ≡ epoch
    pub key_fits : parts.key_id ≡ key_id m (public_key m k)
    pub mapped : hash_to_group m (take 100 bytes) ≡ null m → ⊥
    pub authentic : parts.authenticator ≡ direct m k (take 100 bytes)

-- a fault of the group, kept whole inside the batch's
abbrev pub of_group : {T : Type 0} → Result T GroupFault → Result T BatchFault
of_group (Ok x) = Ok x
of_group (Err f) = Err (Group f)

module _ {E S K : Type 0} (m : Model E S K) where
  -- the input for an epoch, a nonce, a context and the code of a public key: lengths first, then the key
  unfoldable pub input_answer : ℕ → List ℕ → List ℕ → List ℕ → Result (List ℕ) BatchFault
  input_answer epoch nonce context code =
      ruled
      ((not (length nonce == 32), Wire WrongLength)
      ∷ (not (length context == 32), Wire WrongLength)
      ∷ (not (length code == m.element_width), Wire WrongLength)
      ∷ [])
      (then (of_group (element_of m code)) (λ pk. Ok (token_input m epoch nonce context pk)))

  -- the authenticator of an input by a key: scratch, lengths, the key, and the input's element
  unfoldable pub direct_answer : ℕ → List ℕ → List ℕ → Result (List ℕ) BatchFault
  direct_answer room code input =
      ruled
      ((nat_lt room 1024, Wire ShortScratch)
      ∷ (not (length code == m.scalars.width), Wire WrongLength)
      ∷ (not (length input == 100), Wire WrongLength)
      ∷ [])
      (then (of_group (key_of m code)) (λ k.
      ruled ((is_null m (hash_to_group m input), Group NullInput) ∷ []) (Ok (direct m k input))))
