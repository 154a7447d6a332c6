-- What the steps with elements do to logarithms.
use Rattle.std.proofs.Common.{◌≡◌, ℕ, ◌+◌, ◌-◌, ◌*◌, ◌/◌, ◌%◌, ◌^◌, ◌<◌, ◌≤◌, true, false, sym, ap, ◌∙◌, subst, lt_of_lt_of_le, mod-eq_of_lt, add-mul, zero-mul, div-one, arith, eqb-true}
use native.Mathlib.Nat.{zero-mod, mod-add-mod, add-mod-mod, div-eq_of_lt}
use borrow.Author.Tests.{eqb-false}
use Rattle.std.proofs.lemmas.Nat.{shr-shr}
use Rattle.numbers.proofs.Mod.{half_odd, half_even}
use Rattle.numbers.proofs.Powers.{pow_mul}
use Rattle.scalar.specs.Scalars.{bit_at}
use Rattle.group.specs.Model.{Model}
use Rattle.group.specs.Elements.{null, generator, sum, opposite, base_multiple, multiple}

module _ {E S K : Type 0} (m : Model E S K) where
  pub order_positive : 0 < m.scalars.order
  order_positive = let low = m.scalars.low in omega arith

  -- an element is known by its logarithm
  pub by_log : (x : E) (n : ℕ) → m.log x ≡ n % m.scalars.order → x ≡ m.at_log n
  by_log x n e = m.faithful x (m.at_log n) (e ∙ sym (m.full n))

  pub at_own_log : (x : E) → x ≡ m.at_log (m.log x)
  at_own_log x = by_log x (m.log x) (sym (mod-eq_of_lt (m.below x)))

  pub same_remainder : (a b : ℕ) → a % m.scalars.order ≡ b % m.scalars.order → m.at_log a ≡ m.at_log b
  same_remainder a b e = by_log (m.at_log a) b (m.full a ∙ e)

  pub log_null : m.log (null m) ≡ 0
  unfolding null
  log_null = m.full 0 ∙ zero-mod m.scalars.order

  pub log_generator : m.log (generator m) ≡ 1
  unfolding generator
  log_generator = m.full 1 ∙ mod-eq_of_lt (let low = m.scalars.low in omega arith)

  pub log_sum : (x y : E) → m.log (sum m x y) ≡ (m.log x + m.log y) % m.scalars.order
  unfolding sum
  log_sum x y = m.full (m.log x + m.log y)

  pub log_opposite : (x : E) → m.log (opposite m x) ≡ (m.scalars.order - m.log x) % m.scalars.order
  unfolding opposite
  log_opposite x = m.full (m.scalars.order - m.log x)

  pub log_base : (s : S) → m.log (base_multiple m s) ≡ m.scalars.number s
  unfolding base_multiple
  log_base s = m.full (m.scalars.number s) ∙ mod-eq_of_lt (m.scalars.below s)

  pub log_multiple : (s : S) (x : E) → m.log (multiple m s x) ≡ (m.scalars.number s * m.log x) % m.scalars.order
  unfolding multiple
  log_multiple s x = m.full (m.scalars.number s * m.log x)

  -- sums of elements that are given by logarithms of any size
  pub sum_at : (a b : ℕ) → sum m (m.at_log a) (m.at_log b) ≡ m.at_log (a + b)
  sum_at a b =
      let q = m.scalars.order in
      by_log (sum m (m.at_log a) (m.at_log b)) (a + b)
      (log_sum (m.at_log a) (m.at_log b) ∙ ap (λ (x : ℕ). (x + m.log (m.at_log b)) % q) (m.full a) ∙ mod-add-mod a q (m.log (m.at_log b)) ∙
      ap (λ (x : ℕ). (a + x) % q) (m.full b) ∙ add-mod-mod a b q)

  pub sum_at_right : (a : ℕ) (x : E) → sum m (m.at_log a) x ≡ m.at_log (a + m.log x)
  sum_at_right a x = ap (λ y. sum m (m.at_log a) y) (at_own_log x) ∙ sum_at a (m.log x)

odd_times : (k x : ℕ) → k % 2 ≡ 1 → k / 2 * x + k / 2 * x + x ≡ k * x
odd_times k x e = sym (ap (λ (n : ℕ). n * x) (half_odd k e) ∙ add-mul (k / 2 + k / 2) 1 x ∙ omega (arith, add-mul (k / 2) (k / 2) x))

even_times : (k x : ℕ) → (k % 2 ≡ 1 → ⊥) → k / 2 * x + k / 2 * x ≡ k * x
even_times k x e = sym (ap (λ (n : ℕ). n * x) (half_even k e) ∙ add-mul (k / 2) (k / 2) x)

-- Multiplication from the highest bit down: what stands above a place, times p.
module _ {E S K : Type 0} (m : Model E S K) (s : S) (p : E) where
  abbrev pub above : ℕ → E
  above place = m.at_log (m.scalars.number s / 2 ^ place * m.log p)

  pub none_above : (place : ℕ) → m.scalars.number s < 2 ^ place → null m ≡ above place
  unfolding null
  none_above place h = ap m.at_log (sym (ap (λ (n : ℕ). n * m.log p) (div-eq_of_lt h) ∙ zero-mul (m.log p)))

  -- a scalar has no bit past its code
  pub none_past_code : null m ≡ above (8 * m.scalars.width)
  none_past_code =
      let w = m.scalars.width in
      none_above (8 * w) (lt_of_lt_of_le (m.scalars.below s) (subst (λ (x : ℕ). m.scalars.order ≤ x) (pow_mul 2 8 w) m.scalars.room))

  doubled_above : (place : ℕ) (r : E) → r ≡ above (place + 1) →
      sum m r r ≡ m.at_log (m.scalars.number s / 2 ^ place / 2 * m.log p + m.scalars.number s / 2 ^ place / 2 * m.log p)
  doubled_above place r e =
      let n = m.scalars.number s in
      let half : r ≡ m.at_log (n / 2 ^ place / 2 * m.log p) = e ∙ ap (λ (k : ℕ). m.at_log (k * m.log p)) (sym (shr-shr n place 1)) in
      ap (λ x. sum m x x) half ∙ sum_at m (n / 2 ^ place / 2 * m.log p) (n / 2 ^ place / 2 * m.log p)

  -- a turn where the bit is set: doubled to t, and p added
  pub bit_one : (place : ℕ) (r t x : E) → 0 < place → r ≡ above place → t ≡ sum m r r → x ≡ sum m t p → bit_at m.scalars s (place - 1) ≡ true → x ≡ above (place - 1)
  unfolding bit_at
  bit_one place r t x h e f g b =
      let d = m.scalars.number s / 2 ^ (place - 1) in
      let next : place ≡ place - 1 + 1 = omega arith in
      g ∙ ap (λ y. sum m y p) (f ∙ doubled_above (place - 1) r (e ∙ ap above next)) ∙ sum_at_right m (d / 2 * m.log p + d / 2 * m.log p) p ∙
      ap m.at_log (odd_times d (m.log p) (eqb-true (d % 2) 1 b))

  -- a turn where it is not
  pub bit_zero : (place : ℕ) (r t : E) → 0 < place → r ≡ above place → t ≡ sum m r r → bit_at m.scalars s (place - 1) ≡ false → t ≡ above (place - 1)
  unfolding bit_at
  bit_zero place r t h e f b =
      let d = m.scalars.number s / 2 ^ (place - 1) in
      let next : place ≡ place - 1 + 1 = omega arith in
      f ∙ doubled_above (place - 1) r (e ∙ ap above next) ∙ ap m.at_log (even_times d (m.log p) (eqb-false (d % 2) 1 b))

  pub all_above : above 0 ≡ multiple m s p
  unfolding multiple
  all_above = ap (λ (k : ℕ). m.at_log (k * m.log p)) (div-one (m.scalars.number s))
