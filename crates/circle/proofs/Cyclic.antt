-- The members are the 131 multiples of G.
use Rattle.std.proofs.Common.{◌≡◌, ℕ, zero, suc, ◌+◌, ◌-◌, ◌*◌, ◌/◌, ◌%◌, ◌<◌, Bool, not, T, sym, refl, ap, ◌∙◌, subst, mod-lt, mul_comm, arith, lit<, T_not}
use native.Mathlib.Nat.{mod-add-div}
use native.Mathlib.Decide.{dec_lt}
use Rattle.circle.specs.declared.Pair.{Pair}
use Rattle.circle.specs.Circle.{plus, opposite, null, base, times, same_pair, Member}
use Rattle.numbers.specs.Numbered.{Numbered, number_of}
use Rattle.numbers.proofs.Logarithms.{log_below, at_log}
use Rattle.numbers.proofs.Table.{below, below_at}
use Rattle.circle.specs.Sums.{plus_comm, plus_assoc, null_plus}
use Rattle.circle.proofs.Algebra.{plus_opposite, times_x, times_y, null_times, times_zero, times_suc, times_add, times_times, circle_times}
use Rattle.circle.proofs.Covered.{Multiple, same_pairs, four}

-- 131·G is null
whole : times 131 base ≡ null
unfolding times
whole = refl

times_null : (n : ℕ) → times n null ≡ null
times_null zero = times_zero null
times_null (suc n) = times_suc n null ∙ ap (λ b. plus b null) (times_null n)

rounds : (n : ℕ) → times (131 * n) base ≡ null
rounds n = ap (λ (k : ℕ). times k base) (mul_comm 131 n) ∙ sym (times_times n 131 base) ∙ ap (times n) whole ∙ times_null n

-- after 131 the multiples of G begin again
around : (n : ℕ) → times n base ≡ times (n % 131) base
around n =
    ap (λ (k : ℕ). times k base) (sym (mod-add-div n 131)) ∙ times_add (n % 131) (131 * (n / 131)) base ∙
    ap (plus (times (n % 131) base)) (rounds (n / 131)) ∙ plus_comm (times (n % 131) base) null ∙ null_times (n % 131) base

pub multiple_member : (k : ℕ) → Member (times k base)
multiple_member k = (
  times_x k base,
  times_y k base,
  circle_times k base refl,
  times_times 131 k base ∙ rounds k,
)

-- 132 is 4 times 33, so a member is four times a point of the circle
all : (a : Pair) → Member a → Multiple a
all a m =
    let e : times 4 (times 33 a) ≡ a =
    times_times 4 33 a ∙ times_suc 131 a ∙ ap (λ b. plus b a) m.3 ∙ null_plus a m.0 m.1 in
    subst Multiple e (four (times 33 a) (times_x 33 a) (times_y 33 a) (circle_times 33 a m.2))

-- no multiple before the 131st is null
abbrev not_null : ℕ → Bool
not_null d = not (same_pair (times (suc d) base) null)

tested : T (below not_null 130)
unfolding times
tested = tt

not_less : (j k : ℕ) → j < k → k < 131 → times j base ≡ times k base → ⊥
not_less j k l h e =
    let d = k - j in
    let back : times d base ≡ null =
    sym (null_times d base) ∙ ap (λ b. plus b (times d base)) (sym whole) ∙ sym (times_add 131 d base) ∙
    ap (λ (n : ℕ). times n base) {x = 131 + d} {y = k + (131 - j)} (omega arith) ∙ times_add k (131 - j) base ∙
    ap (λ b. plus b (times (131 - j) base)) (sym e) ∙ sym (times_add j (131 - j) base) ∙
    ap (λ (n : ℕ). times n base) {x = j + (131 - j)} {y = 131} (omega arith) ∙ whole in
    let one : suc (d - 1) ≡ d = omega arith in
    T_not (same_pair (times (suc (d - 1)) base) null) (below_at not_null 130 tested (d - 1) (omega arith))
    (subst (λ b. T (same_pair b null)) (sym (ap (λ (n : ℕ). times n base) one ∙ back)) tt)

apart_by : (j k : ℕ) → Dec (j < k) → Dec (k < j) → j < 131 → k < 131 → times j base ≡ times k base → j ≡ k
apart_by j k (yes l) d hj hk e = absurd (not_less j k l hk e)
apart_by j k (no l) (yes m) hj hk e = absurd (not_less k j m hj (sym e))
apart_by j k (no l) (no m) hj hk e = omega arith

pub numbered : Numbered Member plus (λ k. times k base) 131
numbered = record {
  some = lit< tt;
  member = λ k h. multiple_member k;
  all = all;
  apart = λ j k. apart_by j k (dec_lt j k) (dec_lt k j);
  sums = λ j k hj hk. sym (times_add j k base) ∙ around (j + k);
}

-- The opposite of a member is the multiple of G that lacks to 131.
pub opposite_multiple : (a : Pair) → Member a →
    opposite a ≡ times ((131 - number_of same_pair (λ k. times k base) 131 a) % 131) base
opposite_multiple a m =
    let l = number_of same_pair (λ k. times k base) 131 a in
    let r = (131 - l) % 131 in
    let low = log_below numbered same_pairs a m in
    let both : plus a (times r base) ≡ null =
    ap (λ b. plus b (times r base)) (sym (at_log numbered same_pairs a m)) ∙ sym (times_add l r base) ∙ around (l + r) ∙
    ap (λ (k : ℕ). times k base) {x = (l + r) % 131} {y = 0} (omega arith) ∙ times_zero base in
    sym (null_plus (opposite a) m.0 (mod-lt _ (lit< tt))) ∙ ap (λ b. plus b (opposite a)) (sym both ∙ plus_comm a (times r base)) ∙
    plus_assoc (times r base) a (opposite a) ∙ ap (plus (times r base)) (plus_opposite a m.2) ∙
    plus_comm (times r base) null ∙ null_times r base
