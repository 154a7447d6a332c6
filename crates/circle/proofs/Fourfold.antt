-- What the map answers is a member.
use Rattle.std.proofs.Common.{◌≡◌, ℕ, ◌+◌, ◌*◌, ◌%◌, ◌<◌, Bool, not, T, eqb, sym, refl, ap, ◌∙◌, subst, mod-lt, arith, lit<, T_not}
use Rattle.circle.specs.declared.Pair.{Pair}
use Rattle.circle.specs.Circle.{times, slope_point, mapped_pair, OnCircle, Member}
use Rattle.scalar.specs.Inverse.{inverse_number}
use Rattle.scalar.specs.Laws.{inverse_found}
use Rattle.numbers.proofs.Mod.{mod_mul_left}
use Rattle.numbers.proofs.Table.{below, below_at}
use Rattle.circle.specs.Sums.{alike, equal}
use Rattle.circle.proofs.Algebra.{norm}
use Rattle.circle.proofs.Covered.{four}
use Rattle.circle.proofs.Cyclic.{numbered}
use Rattle.circle.proofs.Field.{field}

-- with s = (1 + t²)u: (1 − t²)²u² + 4t²u² = s²
pub slope_circle : (t u : ℕ) → ((1 + t * t) * u) % 523 ≡ 1 → OnCircle (slope_point t u)
slope_circle t u e =
    let s = (1 + t * t) * u in
    let v = (1 + 522 * (t * t)) * u in
    let w = 2 * t * u in
    let first : (minus-part : ℕ) → minus-part ≡ ((1 + 522 * (t * t)) % 523 * u) % 523 → minus-part ≡ v % 523 =
    λ k f. f ∙ mod_mul_left (1 + 522 * (t * t)) u 523 in
    ap (λ (k : ℕ). (k * k + w % 523 * (w % 523)) % 523) (first _ refl) ∙ norm v w ∙
    alike (v * v + w * w) (s * s) 0 ((2 * (t * t) + 521 * (t * t * (t * t))) * (u * u)) (omega arith) ∙
    sym (mod_mul_left s s 523) ∙ ap (λ (k : ℕ). (k * s) % 523) e ∙ equal _ _ (omega arith) ∙ e

-- Four times a point of the circle is a member.
pub four_member : (a : Pair) → a.x < 523 → a.y < 523 → OnCircle a → Member (times 4 a)
four_member a h l c = let m = four a h l c in subst Member m.2 (numbered.member m.0 m.1)

slope_member : (t u : ℕ) → ((1 + t * t) * u) % 523 ≡ 1 → Member (times 4 (slope_point t u))
slope_member t u e = four_member (slope_point t u) (mod-lt _ (lit< tt)) (mod-lt _ (lit< tt)) (slope_circle t u e)

-- -1 is no square modulo 523
abbrev no_root : ℕ → Bool
no_root t = not (eqb ((1 + t * t) % 523) 0)

tested : T (below no_root 523)
tested = tt

pub invertible : (t : ℕ) → t < 523 → 0 < (1 + t * t) % 523
invertible t h =
    let no_zero : ((1 + t * t) % 523 ≡ 0 → ⊥) = λ e. T_not (eqb ((1 + t * t) % 523) 0) (below_at no_root 523 tested t h) (subst (λ (k : ℕ). T (eqb k 0)) (sym e) tt) in
    omega arith

-- What a word maps to is a member.
pub mapped_member : (n : ℕ) → Member (mapped_pair n)
unfolding mapped_pair
mapped_member n =
    let t = n % 523 in
    let s = (1 + t * t) % 523 in
    let f = inverse_found field s (invertible t (mod-lt n (lit< tt))) (mod-lt (1 + t * t) (lit< tt)) in
    slope_member t (inverse_number 523 s) (sym (mod_mul_left (1 + t * t) (inverse_number 523 s) 523) ∙ f.1)
