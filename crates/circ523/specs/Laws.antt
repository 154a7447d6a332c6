-- That circ523 keeps the laws of a group.
use Rattle.std.specs.Prelude.{◌≡◌, ℕ, ◌/◌, ◌%◌, ◌<◌, List, length, Some, refl}
use Rattle.std.proofs.Common.{ap, ◌∙◌, mod-lt, mod-eq_of_lt, arith, lit<}
use mathlib.Core.HLevel.{is_prop→PathP}
use Rattle.std.proofs.Math.Bridge.{le_prop}
use Rattle.std.proofs.Math.Nat.{ℕ_set}
use Rattle.std.specs.List.{AllByRecursion}
use Rattle.numbers.proofs.Logarithms.{log_below, at_log, log_at, log_same}
use Rattle.numbers.proofs.Codes.{only_codes, found_by_code}
use Rattle.scalar.specs.Modulo.{modulo}
use Rattle.circle.specs.declared.Pair.{Pair}
use Rattle.circle.specs.Circle.{times, base, Member}
use Rattle.circle.specs.Sums.{same}
use Rattle.circle.proofs.Covered.{same_pairs}
use Rattle.circle.proofs.Cyclic.{numbered}
use Rattle.circ523.specs.declared.point.Point.{Point}
use Rattle.circ523.specs.Elements.{order, logarithm, multiple_of_base, code_of, element_of}

pair_set : (a b : Pair) → IsProp (a ≡ b)
pair_set a b e f = λ j i. record {
  x = ℕ_set a.x b.x (λ k. (e k).x) (λ k. (f k).x) j i;
  y = ℕ_set a.y b.y (λ k. (e k).y) (λ k. (f k).y) j i;
}

member_prop : (a : Pair) → IsProp (Member a)
member_prop a m n = λ i. (
  le_prop m.0 n.0 i,
  le_prop m.1 n.1 i,
  ℕ_set _ _ m.2 n.2 i,
  pair_set _ _ m.3 n.3 i,
)

-- an element is known by its pair
pub same_point : (p r : Point) → p.pair ≡ r.pair → p ≡ r
same_point p r e = λ i. record {
  pair = e i;
  member = is_prop→PathP (λ j. Member (e j)) (λ j. member_prop (e j)) p.member r.member i;
}

pub below : (p : Point) → logarithm p < 131
unfolding logarithm
below p = log_below numbered same_pairs p.pair p.member

pub faithful : (p r : Point) → logarithm p ≡ logarithm r → p ≡ r
unfolding logarithm
faithful p r e = same_point p r (log_same numbered same_pairs p.pair r.pair p.member r.member e)

pub full : (n : ℕ) → logarithm (multiple_of_base n) ≡ n % 131
unfolding logarithm multiple_of_base
full n = log_at numbered same_pairs (n % 131) (mod-lt n (lit< tt))

-- an element is the multiple of G by its logarithm
pub at_own_log : (p : Point) → multiple_of_base (logarithm p) ≡ p
unfolding logarithm multiple_of_base
at_own_log p =
    same_point _ p
    (ap (λ (k : ℕ). times k base) (mod-eq_of_lt (below p)) ∙ at_log numbered same_pairs p.pair p.member)

pub coded : (p : Point) → length (code_of p) ≡ 4
unfolding code_of
coded p = refl

pub coded_bytes : (p : Point) → AllByRecursion (λ b. b < 256) (code_of p)
unfolding code_of
coded_bytes p =
    let x = p.member.0 in
    let y = p.member.1 in
    (omega arith, (mod-lt p.pair.x {m = 256} (lit< tt), (omega arith, (mod-lt p.pair.y {m = 256} (lit< tt), tt))))

-- no two elements have one code
pub same_code : (p r : Point) → code_of p ≡ code_of r → p ≡ r
unfolding code_of
same_code p r e =
    let xh : p.pair.x / 256 ≡ r.pair.x / 256 = cc in
    let xl : p.pair.x % 256 ≡ r.pair.x % 256 = cc in
    let yh : p.pair.y / 256 ≡ r.pair.y / 256 = cc in
    let yl : p.pair.y % 256 ≡ r.pair.y % 256 = cc in
    same_point p r (same p.pair r.pair (omega arith) (omega arith))

pub decoded : (p : Point) → element_of (code_of p) ≡ Some p
unfolding element_of
decoded p = found_by_code code_of multiple_of_base 131 same_code p (logarithm p) (below p) (at_own_log p)

pub encoded : (bytes : List ℕ) (p : Point) → element_of bytes ≡ Some p → code_of p ≡ bytes
unfolding element_of
encoded bytes p e = only_codes code_of multiple_of_base 131 bytes p e

-- below and full, told by the scalars' order
pub below_order : (p : Point) → logarithm p < (modulo order).order
unfolding modulo
below_order = below

pub full_order : (n : ℕ) → logarithm (multiple_of_base n) ≡ n % (modulo order).order
unfolding modulo
full_order = full
