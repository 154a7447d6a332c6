-- Numbers in bytes, the high byte first.
use Rattle.std.specs.Prelude.{ℕ, zero, suc, ◌/◌, ◌%◌, Bool, true, ◌&&◌, List, [], ◌∷◌, ◌++◌, take, nat_lt}
use Rattle.std.specs.Int.Digits.{number_from_digits}
use Rattle.numbers.specs.declared.code.Code.{Code}

-- bytes are numbers below 256
abbrev pub are_bytes : List ℕ → Bool
are_bytes [] = true
are_bytes (b ∷ bytes) = nat_lt b 256 && are_bytes bytes

-- the number that bytes write
abbrev pub read : List ℕ → ℕ
read bytes = number_from_digits 256 bytes

-- a number in so many bytes
abbrev pub written : ℕ → ℕ → List ℕ
written zero n = []
written (suc width) n = written width (n / 256) ++ (n % 256 ∷ [])

-- a number in two bytes
abbrev pub two_bytes : ℕ → List ℕ
two_bytes n = (n / 256 % 256) ∷ (n % 256) ∷ []

-- the number in the first 8 bytes: one word
unfoldable pub word : List ℕ → ℕ
word bytes = read (take 8 bytes)

-- the bytes that stand in a code
abbrev pub code_bytes : Code → List ℕ
code_bytes c = take c.len c.bytes
