-- What the scalars of a group are: the numbers modulo a prime order. S is the type of scalars, K the
-- type of those that are known not to be zero.
use Rattle.std.specs.Prelude.{◌≡◌, ℕ, ◌+◌, ◌-◌, ◌*◌, ◌/◌, ◌%◌, ◌^◌, ◌<◌, ◌≤◌, Bool, cond, ◌&&◌, List, length, Some, None, Option, ◌==◌, nat_lt}
use Rattle.numbers.specs.Prime.{Prime}
use Rattle.numbers.specs.Bytes.{are_bytes, read, written, word}

pub record Scalars (S K : Type 0) : Type 0 where
  -- how many scalars there are
  pub order : ℕ
  -- how many bytes the code of a scalar has
  pub width : ℕ
  -- the number that a scalar is
  pub number : S → ℕ
  -- the scalar of a number, taken modulo the order
  pub scalar : ℕ → S
  -- what times a scalar is one; zero for zero
  pub inverse : S → S
  -- the scalar that a nonzero one is
  pub part : K → S
  -- the nonzero one that a scalar is, if it is not zero
  pub nonzero : S → Option K
  -- the order is a prime of at least 3 and below 65,536
  pub low : 3 ≤ order
  pub high : order < 65536
  pub prime : Prime order
  -- a code has one or two bytes, and every scalar fits
  pub narrow : 1 ≤ width
  pub wide : width ≤ 2
  pub room : order ≤ 256 ^ width
  -- the numbers are those below the order, each the number of one scalar
  pub below : (s : S) → number s < order
  pub faithful : (s t : S) → number s ≡ number t → s ≡ t
  pub full : (n : ℕ) → number (scalar n) ≡ n % order
  -- the inverse
  pub inverse_zero : (s : S) → number s ≡ 0 → number (inverse s) ≡ 0
  pub inverse_one : (s : S) → 0 < number s → (number s * number (inverse s)) % order ≡ 1
  -- a nonzero scalar is a scalar whose number is above 0, and each such is one of them
  pub positive : (k : K) → 0 < number (part k)
  pub none : (s : S) → number s ≡ 0 → nonzero s ≡ None
  pub some : (s : S) → 0 < number s → (k : K) × (nonzero s ≡ Some k) × (part k ≡ s)
  pub again : (k : K) → nonzero (part k) ≡ Some k

module _ {S K : Type 0} (m : Scalars S K) where
  -- s + t
  unfoldable pub added : S → S → S
  added s t = m.scalar (m.number s + m.number t)

  -- s - t
  unfoldable pub subtracted : S → S → S
  subtracted s t = m.scalar (m.number s + (m.order - m.number t))

  -- s times t
  unfoldable pub multiplied : S → S → S
  multiplied s t = m.scalar (m.number s * m.number t)

  -- the bit at a place, counted from the lowest
  unfoldable pub bit_at : S → ℕ → Bool
  bit_at s place = m.number s / 2 ^ place % 2 == 1

  -- the number, big-endian
  unfoldable pub scalar_code : S → List ℕ
  scalar_code s = written m.width (m.number s)

  -- the scalar that has the code, if there is one
  unfoldable pub scalar_of : List ℕ → Option S
  scalar_of bytes =
      cond (are_bytes bytes && (length bytes == m.width && nat_lt (read bytes) m.order)) (Some (m.scalar (read bytes))) None

  -- what the first 8 bytes write, modulo the order
  unfoldable pub reduced : List ℕ → S
  reduced bytes = m.scalar (word bytes)
