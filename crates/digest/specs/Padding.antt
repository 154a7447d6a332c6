-- The padded message: FIPS 180-4, 5.1.1, for a message of whole bytes.
use Rattle.std.specs.Prelude.{◌≡◌, ℕ, ◌+◌, ◌-◌, ◌*◌, ◌/◌, ◌%◌, ◌^◌, ◌≤◌, List, [], ◌∷◌, ◌++◌, length, replicate}

-- a number in eight bytes, the highest first
unfoldable pub eight_bytes : ℕ → List ℕ
eight_bytes n =
    (n / 2 ^ 56 % 256) ∷ (n / 2 ^ 48 % 256) ∷ (n / 2 ^ 40 % 256) ∷ (n / 2 ^ 32 % 256)
    ∷ (n / 2 ^ 24 % 256) ∷ (n / 2 ^ 16 % 256) ∷ (n / 2 ^ 8 % 256) ∷ (n % 256) ∷ []

-- how many zero bytes follow the byte 0x80, after n bytes of message
abbrev pub zeros_after : ℕ → ℕ
zeros_after n = (119 - n % 64) % 64

-- what follows n bytes of message: the bit 1, zeros, and the number of the message's bits
unfoldable pub padding : ℕ → List ℕ
padding n = 0x80 ∷ (replicate (zeros_after n) 0 ++ eight_bytes (8 * n))

abbrev pub padded : List ℕ → List ℕ
padded message = message ++ padding (length message)

-- The standard's own words. Of the bits l of a message: the bit 1 follows it, then k zero bits, then l in 64 bits,
-- where k is the smallest number that makes l + 1 + k equal to 448 modulo 512.
pub record PaddingIsTheStandards : Type 0 where
  pub zeros : (n : ℕ) → (8 * n + 1 + (7 + 8 * zeros_after n)) % 512 ≡ 448
  pub fewest : (n k : ℕ) → (8 * n + 1 + k) % 512 ≡ 448 → 7 + 8 * zeros_after n ≤ k
  pub shape : (n : ℕ) → padding n ≡ 0x80 ∷ (replicate (zeros_after n) 0 ++ eight_bytes (8 * n))
  pub blocks : (message : List ℕ) → length (padded message) % 64 ≡ 0
