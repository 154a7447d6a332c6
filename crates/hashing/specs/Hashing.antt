-- What is hashed: labels, numbers and codes in a row, for every kind of group.
use Rattle.std.specs.Prelude.{ℕ, List, [], ◌∷◌, ◌++◌, length, codes}
use Rattle.numbers.specs.Bytes.{two_bytes}
use Rattle.digest.specs.Sha256.{sha256}
use Rattle.scalar.specs.Scalars.{reduced}
use Rattle.group.specs.Model.{Model}

module _ {E S K : Type 0} (m : Model E S K) where
  -- "BBTV4-", the byte 1, "-", the group's name, "-SHA256"
  unfoldable pub context_string : List ℕ
  context_string = codes "BBTV4-" ++ ((1 ∷ codes "-") ++ (m.name ++ codes "-SHA256"))

  -- an element in a hash: the length of its code in two bytes, and the code
  unfoldable pub framed_code : List ℕ → List ℕ
  framed_code code = two_bytes m.element_width ++ code

  abbrev pub framed : E → List ℕ
  framed p = framed_code (m.code p)

  -- a message under a label: the message, the label with the context string, and their length in one byte
  unfoldable pub tagged : List ℕ → List ℕ → List ℕ
  tagged label message = message ++ ((label ++ context_string) ++ (length (label ++ context_string) ∷ []))

  unfoldable pub hash_to_scalar : List ℕ → S
  hash_to_scalar message = reduced m.scalars (sha256 (tagged (codes "HashToScalar-") message))

  unfoldable pub hash_to_group : List ℕ → E
  hash_to_group message = m.map (sha256 (tagged (codes "HashToGroup-") message))

  -- what stands for a public key in a token
  unfoldable pub key_id : E → List ℕ
  key_id pk = sha256 (m.code pk)

  -- what makes a token good: the hash of its input and of the evaluated element
  unfoldable pub authenticator : List ℕ → E → List ℕ
  authenticator input u = sha256 (two_bytes (length input) ++ (input ++ (framed u ++ codes "Finalize")))
