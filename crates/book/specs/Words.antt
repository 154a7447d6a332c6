-- Numbers in two bytes, the higher first.
use Rattle.std.specs.Prelude.{ℕ, ◌+◌, ◌*◌, ◌/◌, ◌%◌, ◌<◌, List, [], ◌∷◌, slice_index}

-- a number in two bytes
abbrev pub two : ℕ → List ℕ
two n = n / 256 ∷ n % 256 ∷ []

-- two bytes as a number
abbrev pub word : List ℕ → ℕ → ℕ
word m at = slice_index m at * 256 + slice_index m (at + 1)

-- a list of bytes
abbrev pub Bytes : List ℕ → Type 0
Bytes m = (k : ℕ) → slice_index m k < 256
