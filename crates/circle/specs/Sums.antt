-- The laws of the sum of two points, for all pairs of numbers: proofs that sums are joins, so they stand beside it.
use Rattle.std.specs.Prelude.{◌≡◌, ℕ, ◌+◌, ◌*◌, ◌/◌, ◌%◌, ◌<◌, refl}
use Rattle.std.proofs.Common.{sym, ap, ◌∙◌, mod-lt, mod-eq_of_lt, arith, lit<}
use native.Mathlib.Nat.{mod-add-div, add-mul-mod_self_left}
use Rattle.numbers.specs.Repeated.{JoinLaws}
use Rattle.circle.specs.declared.Pair.{Pair}
use Rattle.circle.specs.Circle.{plus, null}

-- Two numbers that differ by multiples of 523 leave the same remainder.
pub alike : (a b m n : ℕ) → a + 523 * m ≡ b + 523 * n → a % 523 ≡ b % 523
alike a b m n e = sym (add-mul-mod_self_left a 523 m) ∙ ap (λ (k : ℕ). k % 523) e ∙ add-mul-mod_self_left b 523 n

-- the two coordinates of a pair fix it
pub same : (a b : Pair) → a.x ≡ b.x → a.y ≡ b.y → a ≡ b
same a b e f = λ i. record { x = e i; y = f i }

pub plus_comm : (a b : Pair) → plus a b ≡ plus b a
plus_comm a b = same _ _ (ap (λ (k : ℕ). k % 523) (omega arith)) (ap (λ (k : ℕ). k % 523) (omega arith))

-- what is left of a linear form in u and v when their multiples of 523 are taken off
pub linear : (u v s t : ℕ) → (u % 523 * s + v % 523 * t) % 523 ≡ (u * s + v * t) % 523
linear u v s t =
    let du = mod-add-div u 523 in
    let dv = mod-add-div v 523 in
    let us : (u % 523 + 523 * (u / 523)) * s ≡ u * s = ap (λ (k : ℕ). k * s) du in
    let vt : (v % 523 + 523 * (v / 523)) * t ≡ v * t = ap (λ (k : ℕ). k * t) dv in
    alike _ _ (u / 523 * s + v / 523 * t) 0 (omega (arith, us, vt))

by_linear : (k u v s t : ℕ) → k ≡ u % 523 * s + v % 523 * t → k % 523 ≡ (u * s + v * t) % 523
by_linear k u v s t e = ap (λ (n : ℕ). n % 523) e ∙ linear u v s t

pub equal : (m n : ℕ) → m ≡ n → m % 523 ≡ n % 523
equal m n e = ap (λ (k : ℕ). k % 523) e

pub plus_assoc : (a b c : Pair) → plus (plus a b) c ≡ plus a (plus b c)
plus_assoc a b c =
    let abx = a.x * b.x + 522 * (a.y * b.y) in
    let aby = a.x * b.y + b.x * a.y in
    let bcx = b.x * c.x + 522 * (b.y * c.y) in
    let bcy = b.x * c.y + c.x * b.y in
    same _ _
    (by_linear _ abx aby c.x (522 * c.y) (omega arith) ∙ equal _ _ (omega arith) ∙ sym (by_linear _ bcx bcy a.x (522 * a.y) (omega arith)))
    (by_linear _ abx aby c.y c.x (omega arith) ∙ equal _ _ (omega arith) ∙ sym (by_linear _ bcx bcy a.y a.x (omega arith)))

-- null adds nothing to a pair of numbers below 523
pub null_plus : (a : Pair) → a.x < 523 → a.y < 523 → plus null a ≡ a
null_plus a h k = same _ _ (equal _ _ (omega arith) ∙ mod-eq_of_lt h) (equal _ _ (omega arith) ∙ mod-eq_of_lt k)

pub sums : JoinLaws null plus
sums = record {
  grouped = plus_assoc;
  swapped = plus_comm;
  neutral = λ a b. null_plus (plus a b) (mod-lt _ (lit< tt)) (mod-lt _ (lit< tt));
  nothing = refl;
}
