-- What the steps with elements answer, told by pairs.
use Rattle.std.proofs.Common.{◌≡◌, ℕ, ◌+◌, ◌-◌, ◌*◌, ◌/◌, ◌%◌, ◌<◌, List, [], ◌∷◌, length, get_or, sym, ap, ◌∙◌, subst, mod-eq_of_lt, arith}
use Rattle.numbers.proofs.Logarithms.{sum_at}
use Rattle.scalar.specs.Modulo.{modulo}
use Rattle.scalar.specs.declared.modular.Scalar.{Scalar}
use Rattle.circle.specs.declared.Pair.{Pair}
use Rattle.circle.specs.Circle as circle
use Rattle.circle.specs.Circle.{times, base, Member}
use Rattle.circle.specs.Sums.{same}
use Rattle.circle.proofs.Algebra.{times_zero}
use Rattle.circle.proofs.Covered.{same_pairs}
use Rattle.circle.proofs.Cyclic.{numbered, multiple_member, opposite_multiple}
use Rattle.group.specs.Elements.{null, generator, sum, opposite, base_multiple}
use Rattle.circ523.specs.Elements.{logarithm, multiple_of_base, code_of}
use Rattle.circ523.specs.Laws.{same_point}
use Rattle.circ523.specs.Kind.{points}
use Rattle.circ523.specs.declared.point.Point.{Point}

by_pair : (p : Point) (n : ℕ) → p.pair ≡ times (n % 131) base → p ≡ multiple_of_base n
unfolding multiple_of_base
by_pair p n e = same_point p (multiple_of_base n) e

pub is_null : (p : Point) → p.pair ≡ circle.null → p ≡ null points
unfolding null
is_null p e = by_pair p 0 (e ∙ sym (times_zero base))

pub is_generator : (p : Point) → p.pair ≡ base → p ≡ generator points
unfolding generator times
is_generator p e = by_pair p 1 e

sum_pair : (p r : Point) → circle.plus p.pair r.pair ≡ times ((logarithm p + logarithm r) % 131) base
unfolding logarithm
sum_pair p r = sum_at numbered same_pairs p.pair r.pair p.member r.member

pub sum_member : (p r : Point) → Member (circle.plus p.pair r.pair)
sum_member p r = subst Member (sym (sum_pair p r)) (multiple_member ((logarithm p + logarithm r) % 131))

pub is_sum : (p r s : Point) → s.pair ≡ circle.plus p.pair r.pair → s ≡ sum points p r
unfolding sum
is_sum p r s e = by_pair s (logarithm p + logarithm r) (e ∙ sum_pair p r)

opposite_pair : (p : Point) → circle.opposite p.pair ≡ times ((131 - logarithm p) % 131) base
unfolding logarithm
opposite_pair p = opposite_multiple p.pair p.member

pub opposite_member : (p : Point) → Member (circle.opposite p.pair)
opposite_member p = subst Member (sym (opposite_pair p)) (multiple_member ((131 - logarithm p) % 131))

pub is_opposite : (p s : Point) → s.pair ≡ circle.opposite p.pair → s ≡ opposite points p
unfolding opposite modulo
is_opposite p s e = by_pair s (131 - logarithm p) (e ∙ opposite_pair p)

pub is_base_multiple : (s : Scalar 131) (p : Point) → p.pair ≡ times s.value base → p ≡ base_multiple points s
unfolding base_multiple modulo
is_base_multiple s p e = by_pair p s.value (e ∙ ap (λ (k : ℕ). times k base) (sym (mod-eq_of_lt s.below)))

-- a code has four bytes
pub other_length : (bytes : List ℕ) → (length bytes ≡ 4 → ⊥) → (p : Point) → code_of p ≡ bytes → ⊥
unfolding code_of
other_length bytes h p e = h (sym (ap length e))

-- the pair that four bytes write
abbrev pub read_pair : List ℕ → Pair
read_pair bytes = record { x = get_or bytes 0 0 * 256 + get_or bytes 1 0; y = get_or bytes 2 0 * 256 + get_or bytes 3 0 }

pub code_read : (bytes : List ℕ) → length bytes ≡ 4 → ((i : ℕ) → get_or bytes i 0 < 256) → (p : Point) → p.pair ≡ read_pair bytes → code_of p ≡ bytes
unfolding code_of
code_read [] h small p e = absurd (omega arith)
code_read (a ∷ []) h small p e = absurd (omega arith)
code_read (a ∷ b ∷ []) h small p e = absurd (omega arith)
code_read (a ∷ b ∷ c ∷ []) h small p e = absurd (omega arith)
code_read (a ∷ b ∷ c ∷ d ∷ []) h small p e =
    let x : p.pair.x ≡ a * 256 + b = ap (λ r. r.x) e in
    let y : p.pair.y ≡ c * 256 + d = ap (λ r. r.y) e in
    let sb : b < 256 = small 1 in
    let sd : d < 256 = small 3 in
    let xh : p.pair.x / 256 ≡ a = omega arith in
    let xl : p.pair.x % 256 ≡ b = omega arith in
    let yh : p.pair.y / 256 ≡ c = omega arith in
    let yl : p.pair.y % 256 ≡ d = omega arith in
    cc
code_read (a ∷ b ∷ c ∷ d ∷ e₅ ∷ rest) h small p e = absurd (omega arith)

-- bytes that write no member are the code of no element
pub no_member : (bytes : List ℕ) → (Member (read_pair bytes) → ⊥) → (p : Point) → code_of p ≡ bytes → ⊥
unfolding code_of
no_member bytes none p e =
    let back : p.pair ≡ read_pair (code_of p) = same p.pair (read_pair (code_of p)) (omega arith) (omega arith) in
    none (subst (λ b. Member (read_pair b)) e (subst Member back p.member))
