-- What the reckoning modulo q answers, told by the numbers.
use Rattle.std.proofs.Common.{◌≡◌, ℕ, ◌*◌, ◌/◌, ◌%◌, ◌^◌, ◌<◌, ◌≤◌, Bool, true, false, cond, ◌&&◌, eqb, ltb, leb, List, [], ◌∷◌, length, Some, None, Ok, Err, sym, refl, ap, ◌∙◌, subst, lt_of_lt_of_le, mod-eq_of_lt, arith, pow_mono, eq-eqb}
use native.Mathlib.Nat.{div-eq_of_lt}
use Rattle.std.proofs.lemmas.Bool.{eqb-true, ltb-true, cond-true, cond-false, le-leb, lt-leb, and_from, and_parts, lt-ltb}
use Rattle.std.proofs.lemmas.Nat.{div_below}
use Rattle.std.specs.Option.{ok_or}
use Rattle.faults.specs.declared.GroupFault.TheVariants.{NoScalar}
use Rattle.numbers.specs.Bytes.{are_bytes, read, written}
use Rattle.scalar.specs.Scalars.{scalar_code, scalar_of, bit_at}
use Rattle.scalar.specs.Inverse.{inverse_number}
use Rattle.scalar.specs.Laws.{scalar_at, width_of, same_value, inverse_only, inverse_none, inverse_found, none}
use Rattle.scalar.specs.Modulo.{modulo}
use Rattle.scalar.specs.declared.order.Order.{Order}
use Rattle.scalar.specs.declared.modular.Scalar.{Scalar}
use Rattle.scalar.specs.declared.positive.NonZero.{NonZero}

pub width_one : (q : ℕ) → q ≤ 256 → width_of q ≡ 1
width_one q h = cond-true (leb q 256) 1 2 (le-leb q 256 h)

pub width_two : (q : ℕ) → 256 < q → width_of q ≡ 2
width_two q h = cond-false (leb q 256) 1 2 (lt-leb q 256 h)

module _ {q : ℕ} (o : Order q) where
  pub by_value : (r : Scalar q) (n : ℕ) → r.value ≡ n % q → r ≡ (modulo o).scalar n
  unfolding modulo scalar_at
  by_value r n e = same_value r (scalar_at o n) e

  pub zero_inverse : (s : Scalar q) → s.value ≡ 0 → s ≡ (modulo o).inverse s
  unfolding modulo
  zero_inverse s e =
      by_value s (inverse_number q s.value)
      (e ∙ sym (ap (λ (x : ℕ). inverse_number q x % q) e ∙ ap (λ (x : ℕ). x % q) (inverse_none o) ∙ mod-eq_of_lt (let low = o.low in omega arith)))

  pub one_inverse : (s r : Scalar q) → 0 < s.value → (s.value * r.value) % q ≡ 1 → r ≡ (modulo o).inverse s
  unfolding modulo
  one_inverse s r p e =
      by_value r (inverse_number q s.value)
      (inverse_only o s.value r.value p s.below r.below e ∙ sym (mod-eq_of_lt (inverse_found o s.value p s.below).0))

  pub bit_past : (s : Scalar q) (place : ℕ) → 16 ≤ place → false ≡ bit_at (modulo o) s place
  unfolding modulo bit_at
  bit_past s place h =
      let small : s.value < 2 ^ place = let high = o.high in let lt = s.below in lt_of_lt_of_le {m = 2 ^ 16} (omega arith) (pow_mono h) in
      sym (ap (λ (x : ℕ). eqb (x % 2) 1) (div-eq_of_lt small))

  pub code_one : (s : Scalar q) → q ≤ 256 → s.value ∷ [] ≡ scalar_code (modulo o) s
  unfolding modulo scalar_code
  code_one s h =
      let lt = s.below in
      let small : s.value < 256 = omega arith in
      sym (ap (λ (w : ℕ). written w s.value) (width_one q h) ∙ ap (λ (x : ℕ). x ∷ []) (mod-eq_of_lt small))

  pub code_two : (s : Scalar q) → 256 < q → s.value / 256 ∷ s.value % 256 ∷ [] ≡ scalar_code (modulo o) s
  unfolding modulo scalar_code
  code_two s h =
      let lt = s.below in
      let high = o.high in
      let small : s.value / 256 < 256 = div_below s.value 256 256 (omega arith) (omega arith) in
      sym (ap (λ (w : ℕ). written w s.value) (width_two q h) ∙ ap (λ (x : ℕ). x ∷ s.value % 256 ∷ []) (mod-eq_of_lt small))

  pub decoded : (bytes : List ℕ) (r : Scalar q) → are_bytes bytes ≡ true → length bytes ≡ width_of q → read bytes ≡ r.value →
      Ok r ≡ ok_or (scalar_of (modulo o) bytes) NoScalar
  unfolding modulo scalar_of
  decoded bytes r a e v =
      let small = subst (λ (x : ℕ). x < q) (sym v) r.below in
      let fits = and_from (eqb (length bytes) (width_of q)) (ltb (read bytes) q) (eq-eqb (length bytes) (width_of q) e) (lt-ltb (read bytes) q small) in
      let test = and_from (are_bytes bytes) (eqb (length bytes) (width_of q) && ltb (read bytes) q) a fits in
      sym (ap (λ t. ok_or (cond t (Some ((modulo o).scalar (read bytes))) None) NoScalar) test ∙
      ap (λ x. Ok x) (sym (by_value r (read bytes) (sym v ∙ sym (mod-eq_of_lt small)))))

  refused_by : (bytes : List ℕ) (t : Bool) → (t ≡ true → ⊥) → Err NoScalar ≡ ok_or (cond t (Some ((modulo o).scalar (read bytes))) None) NoScalar
  refused_by bytes true h = absurd (h refl)
  refused_by bytes false h = refl

  pub refused : (bytes : List ℕ) → (length bytes ≡ width_of q → read bytes < q → ⊥) →
      Err NoScalar ≡ ok_or (scalar_of (modulo o) bytes) NoScalar
  unfolding modulo scalar_of
  refused bytes h =
      refused_by bytes (are_bytes bytes && (eqb (length bytes) (width_of q) && ltb (read bytes) q))
      (λ e. let all = and_parts (are_bytes bytes) (eqb (length bytes) (width_of q) && ltb (read bytes) q) e in
      let both = and_parts (eqb (length bytes) (width_of q)) (ltb (read bytes) q) all.1 in
      h (eqb-true (length bytes) (width_of q) both.0) (ltb-true (read bytes) q both.1))

  pub is_nonzero : (k : NonZero q) → Ok k ≡ ok_or ((modulo o).nonzero k.scalar) NoScalar
  unfolding modulo
  is_nonzero k = sym (ap (λ x. ok_or x NoScalar) ((modulo o).again k))

  pub is_zero : (s : Scalar q) → s.value ≡ 0 → Err NoScalar ≡ ok_or ((modulo o).nonzero s) NoScalar
  unfolding modulo
  is_zero s e = sym (ap (λ x. ok_or x NoScalar) (none s e))
