-- What client's calls share: the items of a batch, and where faults are kept.
use Rattle.std.specs.Prelude.{ℕ, zero, suc, ◌+◌, List, [], ◌∷◌, ◌++◌, take, drop, Ok, Err, Result}
use Rattle.faults.specs.declared.GroupFault.{GroupFault}
use Rattle.faults.specs.declared.GroupFault.TheVariants.{NullInput}
use Rattle.faults.specs.declared.BatchFault.{BatchFault}
use Rattle.faults.specs.declared.BatchFault.TheVariants.{Item}
use Rattle.group.specs.Model.{Model}
use Rattle.hashing.specs.Hashing.{hash_to_group, key_id}
use Rattle.voprf.specs.Blinding.{blinded}
use Rattle.messages.specs.Answers.{ruled, over}
use Rattle.messages.specs.Messages.{token_input_bytes}
use Rattle.token.specs.Tokens.{then, is_null, key_of}

-- a fault of the group becomes the batch's, with the item's number, which counts from 1
abbrev pub of_item : {T : Type 0} → ℕ → Result T GroupFault → Result T BatchFault
of_item i (Ok x) = Ok x
of_item i (Err f) = Err (Item (i + 1) f)

-- what an outlet holds after an answer: the bytes at its front, or all as it was
abbrev pub outlet_after : Result (List ℕ) BatchFault → List ℕ → List ℕ
outlet_after (Ok bytes) old = over bytes old
outlet_after (Err f) old = old

module _ {E S K : Type 0} (m : Model E S K) where
  -- the input of an item's token under a key id: a seed is a nonce and a context, 32 bytes each
  unfoldable pub input_under : ℕ → List ℕ → List ℕ → List ℕ
  input_under epoch id seed = token_input_bytes m.kind epoch (take 32 seed) (take 32 (drop 32 seed)) id

  -- the same under a public key
  abbrev pub input_of : ℕ → E → List ℕ → List ℕ
  input_of epoch pk seed = input_under epoch (key_id m pk) seed

  -- what is sent for an item: its blind must be a scalar that is not 0, and its input must not map to the null
  unfoldable pub sent : List ℕ → List ℕ → Result E GroupFault
  sent input blind = then (key_of m blind) (λ r. ruled ((is_null m (hash_to_group m input), NullInput) ∷ []) (Ok (blinded m r input)))

  -- the bytes of that
  unfoldable pub sent_code : List ℕ → List ℕ → List ℕ → Result (List ℕ) GroupFault
  sent_code input blind got = then (sent input blind) (λ b. Ok (m.code b))

  -- the items of a batch from place i on, n of them: the bytes that a step makes of each one's input, blind and
  -- answer, in a row after those in front, or the fault of the first item that has one
  unfoldable pub walked :
      (List ℕ → List ℕ → List ℕ → Result (List ℕ) GroupFault) → ℕ → List ℕ → ℕ → ℕ → List ℕ → List ℕ → List ℕ → List ℕ → Result (List ℕ) BatchFault
  walked step epoch id i zero seeds blinds gots front = Ok front
  walked step epoch id i (suc n) seeds blinds gots front =
      then (of_item i (step (input_under epoch id (take 64 seeds)) (take m.scalars.width blinds) (take m.element_width gots))) (λ bytes.
      walked step epoch id (i + 1) n (drop 64 seeds) (drop m.scalars.width blinds) (drop m.element_width gots) (front ++ bytes))
