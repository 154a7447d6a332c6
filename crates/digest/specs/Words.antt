-- Words of 32 bits and the six functions on them: FIPS 180-4, 3.2 and 4.1.2.
use Rattle.std.specs.Prelude.{ℕ, ◌+◌, ◌-◌, ◌*◌, ◌/◌, ◌%◌, ◌^◌, ◌<◌, List, [], ◌∷◌, bit_and, bit_or, bit_xor, slice_index}

-- addition modulo 2^32
abbrev pub ◌⊞◌ : ℕ → ℕ → ℕ
a ⊞ b = (a + b) % 2 ^ 32

infixl 60 ◌⊞◌
-- the n low bits fall out
abbrev pub shr : ℕ → ℕ → ℕ
shr n x = x / 2 ^ n

-- the n low bits come in again at the top
abbrev pub rotr : ℕ → ℕ → ℕ
rotr n x = bit_or (x / 2 ^ n) ((x * 2 ^ (32 - n)) % 2 ^ 32)

-- each bit of x chooses between y and z
unfoldable pub choice : ℕ → ℕ → ℕ → ℕ
choice x y z = bit_xor (bit_and x y) (bit_and ((2 ^ 32 - 1) - x) z)

-- at each place the bit that most of the three have
unfoldable pub majority : ℕ → ℕ → ℕ → ℕ
majority x y z = bit_xor (bit_xor (bit_and x y) (bit_and x z)) (bit_and y z)

-- a rotation is by 1 to 31 places
abbrev pub Turns : ℕ → Type 0
Turns n = (0 < n) × (n < 32)

-- three rotations
unfoldable pub turned : ℕ → ℕ → ℕ → ℕ → ℕ
turned a b c x = bit_xor (bit_xor (rotr a x) (rotr b x)) (rotr c x)

-- two rotations and a shift
unfoldable pub shifted : ℕ → ℕ → ℕ → ℕ → ℕ
shifted a b c x = bit_xor (bit_xor (rotr a x) (rotr b x)) (shr c x)

unfoldable pub Σ₀ : ℕ → ℕ
Σ₀ x = turned 2 13 22 x

unfoldable pub Σ₁ : ℕ → ℕ
Σ₁ x = turned 6 11 25 x

unfoldable pub σ₀ : ℕ → ℕ
σ₀ x = shifted 7 18 3 x

unfoldable pub σ₁ : ℕ → ℕ
σ₁ x = shifted 17 19 10 x

-- four bytes as a word, the first byte the highest
abbrev pub word_at : List ℕ → ℕ → ℕ
word_at bytes i = slice_index bytes i * 16777216 + slice_index bytes (i + 1) * 65536 + slice_index bytes (i + 2) * 256 + slice_index bytes (i + 3)

-- a word as four bytes, the highest first
abbrev pub word_bytes : ℕ → List ℕ
word_bytes w = (w / 16777216 % 256) ∷ (w / 65536 % 256) ∷ (w / 256 % 256) ∷ (w % 256) ∷ []
