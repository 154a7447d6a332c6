-- The circle in the words of the subject.
use Rattle.std.specs.Prelude.{◌≡◌, ℕ, ◌+◌, ◌*◌, ◌%◌, ◌<◌}
use Rattle.scalar.specs.Inverse.{inverse_number}
use Rattle.circle.specs.declared.Pair.{Pair}
use Rattle.circle.specs.Circle.{minus, plus, null, base, opposite, times, OnCircle, Member, slope_point, mapped_pair}

pub record CircleLaws : Type 0 where
  -- a − b is what b lacks of a
  pub difference : (a b : ℕ) → (minus a b + b) % 523 ≡ a % 523
  -- sums of points are points, in any order and bracketing; null adds nothing
  pub closed : (a b : Pair) → OnCircle a → OnCircle b → OnCircle (plus a b)
  pub associative : (a b c : Pair) → plus (plus a b) c ≡ plus a (plus b c)
  pub commutative : (a b : Pair) → plus a b ≡ plus b a
  pub null_adds : (a : Pair) → a.x < 523 → a.y < 523 → plus null a ≡ a
  pub opposed : (a : Pair) → OnCircle a → plus a (opposite a) ≡ null
  -- the members are the multiples of G below the 131st, each once
  pub multiples : (k : ℕ) → Member (times k base)
  pub members : (a : Pair) → Member a → (k : ℕ) × (k < 131) × (times k base ≡ a)
  pub once : (j k : ℕ) → j < 131 → k < 131 → times j base ≡ times k base → j ≡ k
  -- four times a point of the circle is a member
  pub fourfold : (a : Pair) → a.x < 523 → a.y < 523 → OnCircle a → Member (times 4 a)
  -- the map: 1 + t² has an inverse, its point is on the circle, and four times that is a member
  pub invertible : (t : ℕ) → t < 523 → ((1 + t * t) % 523 * inverse_number 523 ((1 + t * t) % 523)) % 523 ≡ 1
  pub slope : (t u : ℕ) → ((1 + t * t) * u) % 523 ≡ 1 → OnCircle (slope_point t u)
  pub maps : (n : ℕ) → Member (mapped_pair n)
