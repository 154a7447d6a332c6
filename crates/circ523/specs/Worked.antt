-- circ523 in the words of the circle, and worked values.
use Rattle.std.specs.Prelude.{◌≡◌, ℕ, List, [], ◌∷◌, None}
use Rattle.std.specs.List.{AllByRecursion}
use Rattle.numbers.specs.Bytes.{word}
use Rattle.circle.specs.declared.Pair.{Pair}
use Rattle.circle.specs.Circle as circle
use Rattle.group.specs.Elements.{null, generator, sum, opposite}
use Rattle.circ523.specs.Elements.{pair_code}
use Rattle.circ523.specs.Kind.{points}
use Rattle.circ523.specs.declared.point.Point.{Point}

-- the pair (x, y)
abbrev at : ℕ → ℕ → Pair
at x y = record { x = x; y = y }

-- The group is the circle's: null and G are the points named, elements add as points of the circle do,
-- the opposite of (x, y) is (x, −y), and each member of the circle is an element.
pub record CircleGroup : Type 0 where
  pub null_is : (null points).pair ≡ at 1 0
  pub generator_is : (generator points).pair ≡ at 82 434
  pub sum_is : (p r : Point) → (sum points p r).pair ≡ circle.plus p.pair r.pair
  pub opposite_is : (p : Point) → (opposite points p).pair ≡ circle.opposite p.pair
  pub each_member : (a : Pair) → circle.Member a → (p : Point) × (p.pair ≡ a)

-- A worked value: a multiple of G; a pair that meets the circle's equation and is the code of no element;
-- a word and the pair that bytes beginning with it map to.
pub data Row : Type 0 where
  multiple : ℕ → Pair → Row
  outside : Pair → Row
  maps : ℕ → Pair → Row

-- what a row says
abbrev pub Holds : Row → Type 0
Holds (multiple n a) = (points.at_log n).pair ≡ a
Holds (outside a) = circle.OnCircle a × (points.element (pair_code a) ≡ None)
Holds (maps n a) = (bytes : List ℕ) → word bytes ≡ n → (points.map bytes).pair ≡ a

-- the table
abbrev pub worked : List Row
worked =
    multiple 2 (at 372 48) ∷ multiple 130 (at 82 89) ∷
    outside (at 104 210) ∷ outside (at 0 1) ∷
    maps 2 (at 82 434) ∷ maps 0 (at 1 0) ∷ maps 1 (at 1 0) ∷ maps 522 (at 1 0) ∷ []

-- All worked values hold.
abbrev pub Worked : Type 0
Worked = AllByRecursion Holds worked
