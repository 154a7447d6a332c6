-- The circle x² + y² = 1 over the numbers modulo 523, and the 131 of its 524 points that are the group.
use Rattle.std.specs.Prelude.{◌≡◌, ℕ, zero, suc, ◌+◌, ◌*◌, ◌%◌, ◌<◌, Bool, ◌&&◌, ◌==◌}
use Rattle.scalar.specs.Inverse.{inverse_number}
use Rattle.circle.specs.declared.Pair.{Pair}

-- a − b modulo 523, in which 522 is −1
abbrev pub minus : ℕ → ℕ → ℕ
minus a b = (a + 522 * b) % 523

-- (x1, y1) + (x2, y2) = (x1x2 − y1y2, x1y2 + x2y1)
abbrev pub plus : Pair → Pair → Pair
plus a b = record { x = minus (a.x * b.x) (a.y * b.y); y = (a.x * b.y + b.x * a.y) % 523 }

abbrev pub null : Pair
null = record { x = 1; y = 0 }

-- G
abbrev pub base : Pair
base = record { x = 82; y = 434 }

-- the opposite of (x, y) is (x, −y)
abbrev pub opposite : Pair → Pair
opposite a = record { x = a.x; y = minus 0 a.y }

-- the n-fold sum of a
unfoldable pub times : ℕ → Pair → Pair
times zero a = null
times (suc n) a = plus (times n a) a

-- x² + y² ≡ 1 modulo 523
abbrev pub OnCircle : Pair → Type 0
OnCircle a = (a.x * a.x + a.y * a.y) % 523 ≡ 1

-- An element: a pair of numbers below 523 on the circle whose 131-fold sum is null.
abbrev pub Member : Pair → Type 0
Member a = (a.x < 523) × (a.y < 523) × OnCircle a × (times 131 a ≡ null)

-- the point ((1 − t²)u, 2tu)
abbrev pub slope_point : ℕ → ℕ → Pair
slope_point t u = record { x = (minus 1 (t * t) * u) % 523; y = (2 * t * u) % 523 }

-- The map: with t = N modulo 523 and u the inverse of 1 + t², four times ((1 − t²)u, 2tu).
unfoldable pub mapped_pair : ℕ → Pair
mapped_pair n = let t = n % 523 in times 4 (slope_point t (inverse_number 523 ((1 + t * t) % 523)))

-- whether two pairs are the same
abbrev pub same_pair : Pair → Pair → Bool
same_pair a b = a.x == b.x && a.y == b.y
