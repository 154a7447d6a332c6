-- The theorems on scalars, from their laws alone.
use Rattle.std.proofs.Common.{◌≡◌, ℕ, ◌+◌, ◌-◌, ◌*◌, ◌%◌, ◌<◌, Bool, true, false, cond, ◌&&◌, eqb, ltb, List, length, Some, None, sym, refl, ap, ◌∙◌, subst, lt_of_lt_of_le, add-zero, add_assoc, mod-eq_of_lt, mul_assoc, mul_comm, add_comm, mul-one, mul-add, arith, eq-eqb}
use native.Mathlib.Nat.{mod-add-mod, add-mod-mod, add-mod_right}
use Rattle.std.proofs.lemmas.Bool.{eqb-true, and_from, and_parts, lt-ltb, ltb-true}
use Rattle.numbers.specs.Bytes.{are_bytes, read, written}
use Rattle.numbers.proofs.Bytes.{length_written, bytes_written, read_written, written_read, bytes_below, below_bytes}
use Rattle.numbers.proofs.Mod.{mod_mul_left, mod_mul_right}
use Rattle.scalar.specs.Scalars.{Scalars, added, subtracted, multiplied, scalar_code, scalar_of}
use Rattle.scalar.specs.Theorems.{Reckons}

module _ {S K : Type 0} (m : Scalars S K) where
  -- a scalar is known by its number
  pub by_number : (s : S) (n : ℕ) → m.number s ≡ n % m.order → s ≡ m.scalar n
  by_number s n e = m.faithful s (m.scalar n) (e ∙ sym (m.full n))

  pub own_number : (s : S) → s ≡ m.scalar (m.number s)
  own_number s = by_number s (m.number s) (sym (mod-eq_of_lt (m.below s)))

  pub same_remainder : (a b : ℕ) → a % m.order ≡ b % m.order → m.scalar a ≡ m.scalar b
  same_remainder a b e = by_number (m.scalar a) b (m.full a ∙ e)

  -- sums and products of scalars that are given by numbers of any size
  pub added_at : (a b : ℕ) → added m (m.scalar a) (m.scalar b) ≡ m.scalar (a + b)
  unfolding added
  added_at a b =
      let q = m.order in
      same_remainder (m.number (m.scalar a) + m.number (m.scalar b)) (a + b)
      (ap (λ (x : ℕ). (x + m.number (m.scalar b)) % q) (m.full a) ∙ mod-add-mod a q (m.number (m.scalar b)) ∙
      ap (λ (x : ℕ). (a + x) % q) (m.full b) ∙ add-mod-mod a b q)

  pub multiplied_at : (a b : ℕ) → multiplied m (m.scalar a) (m.scalar b) ≡ m.scalar (a * b)
  unfolding multiplied
  multiplied_at a b =
      let q = m.order in
      same_remainder (m.number (m.scalar a) * m.number (m.scalar b)) (a * b)
      (ap (λ (x : ℕ). (x * m.number (m.scalar b)) % q) (m.full a) ∙ mod_mul_left a (m.number (m.scalar b)) q ∙
      ap (λ (x : ℕ). (a * x) % q) (m.full b) ∙ mod_mul_right a b q)

  sum_of : (s t : S) (a b : ℕ) → s ≡ m.scalar a → t ≡ m.scalar b → added m s t ≡ m.scalar (a + b)
  sum_of s t a b e f = ap (λ x. added m x t) e ∙ ap (λ x. added m (m.scalar a) x) f ∙ added_at a b

  product_of : (s t : S) (a b : ℕ) → s ≡ m.scalar a → t ≡ m.scalar b → multiplied m s t ≡ m.scalar (a * b)
  product_of s t a b e f = ap (λ x. multiplied m x t) e ∙ ap (λ x. multiplied m (m.scalar a) x) f ∙ multiplied_at a b

  undone : (s t : S) → added m (subtracted m s t) t ≡ s
  unfolding subtracted
  undone s t =
      let q = m.order in
      let a = m.number s in
      let b = m.number t in
      let low = m.below t in
      let all : (a + (q - b)) + b ≡ a + q = omega arith in
      sum_of (m.scalar (a + (q - b))) t (a + (q - b)) b refl (own_number t) ∙
      same_remainder ((a + (q - b)) + b) a (ap (λ (x : ℕ). x % q) all ∙ add-mod_right a q) ∙ sym (own_number s)

  inverted : (s : S) → 0 < m.number s → multiplied m s (m.inverse s) ≡ m.scalar 1
  unfolding multiplied
  inverted s h =
      let low = m.low in
      same_remainder (m.number s * m.number (m.inverse s)) 1 (m.inverse_one s h ∙ sym (mod-eq_of_lt (omega arith)))

  coded : (s : S) → length (scalar_code m s) ≡ m.width
  unfolding scalar_code
  coded s = length_written m.width (m.number s)

  decoded : (s : S) → scalar_of m (scalar_code m s) ≡ Some s
  unfolding scalar_of scalar_code
  decoded s =
      let bytes = scalar_code m s in
      let number = read_written m.width (m.number s) (lt_of_lt_of_le (m.below s) m.room) in
      let fits = and_from (eqb (length bytes) m.width) (ltb (read bytes) m.order) (eq-eqb (length bytes) m.width (length_written m.width (m.number s)))
      (lt-ltb (read bytes) m.order (subst (λ (x : ℕ). x < m.order) (sym number) (m.below s))) in
      let test = and_from (are_bytes bytes) (eqb (length bytes) m.width && ltb (read bytes) m.order) (below_bytes bytes (bytes_written m.width (m.number s))) fits in
      ap (λ t. cond t (Some (m.scalar (read bytes))) None) test ∙ ap (λ (n : ℕ). Some (m.scalar n)) number ∙ ap (λ t. Some t) (sym (own_number s))

  encoded_by : (bytes : List ℕ) (s : S) (b : Bool) → (are_bytes bytes && (eqb (length bytes) m.width && ltb (read bytes) m.order)) ≡ b →
      cond b (Some (m.scalar (read bytes))) None ≡ Some s → written m.width (m.number s) ≡ bytes
  encoded_by bytes s true t e =
      let all = and_parts (are_bytes bytes) (eqb (length bytes) m.width && ltb (read bytes) m.order) t in
      let both = and_parts (eqb (length bytes) m.width) (ltb (read bytes) m.order) all.1 in
      let long = eqb-true (length bytes) m.width both.0 in
      let same : m.scalar (read bytes) ≡ s = cc in
      let number : m.number s ≡ read bytes = ap m.number (sym same) ∙ m.full (read bytes) ∙ mod-eq_of_lt (ltb-true (read bytes) m.order both.1) in
      ap (λ (w : ℕ). written w (m.number s)) (sym long) ∙ ap (written (length bytes)) number ∙ written_read bytes (bytes_below bytes all.0)
  encoded_by bytes s false t e = let z : ◌≡◌ {A = ℕ} 0 1 = cc in absurd (omega arith)

  encoded : (bytes : List ℕ) (s : S) → scalar_of m bytes ≡ Some s → scalar_code m s ≡ bytes
  unfolding scalar_of scalar_code
  encoded bytes s e = encoded_by bytes s (are_bytes bytes && (eqb (length bytes) m.width && ltb (read bytes) m.order)) refl e

  pub reckons : Reckons m
  reckons = record {
    sums_grouped = λ s t u.
        let a = m.number s in
        let b = m.number t in
        let c = m.number u in
        sum_of (added m s t) u (a + b) c (sum_of s t a b (own_number s) (own_number t)) (own_number u) ∙ ap m.scalar (add_assoc a b c) ∙
        sym (sum_of s (added m t u) a (b + c) (own_number s) (sum_of t u b c (own_number t) (own_number u)));
    sums_swapped = λ s t.
        let a = m.number s in
        let b = m.number t in
        sum_of s t a b (own_number s) (own_number t) ∙ ap m.scalar (add_comm a b) ∙ sym (sum_of t s b a (own_number t) (own_number s));
    sums_neutral = λ s.
        sum_of s (m.scalar 0) (m.number s) 0 (own_number s) refl ∙ ap m.scalar (add-zero (m.number s)) ∙ sym (own_number s);
    undone = undone;
    products_grouped = λ s t u.
        let a = m.number s in
        let b = m.number t in
        let c = m.number u in
        product_of (multiplied m s t) u (a * b) c (product_of s t a b (own_number s) (own_number t)) (own_number u) ∙ ap m.scalar (mul_assoc a b c) ∙
        sym (product_of s (multiplied m t u) a (b * c) (own_number s) (product_of t u b c (own_number t) (own_number u)));
    products_swapped = λ s t.
        let a = m.number s in
        let b = m.number t in
        product_of s t a b (own_number s) (own_number t) ∙ ap m.scalar (mul_comm a b) ∙ sym (product_of t s b a (own_number t) (own_number s));
    products_neutral = λ s.
        product_of s (m.scalar 1) (m.number s) 1 (own_number s) refl ∙ ap m.scalar (mul-one (m.number s)) ∙ sym (own_number s);
    inverted = inverted;
    spread = λ s t u.
        let a = m.number s in
        let b = m.number t in
        let c = m.number u in
        product_of s (added m t u) a (b + c) (own_number s) (sum_of t u b c (own_number t) (own_number u)) ∙ ap m.scalar (mul-add a b c) ∙
        sym (sum_of (multiplied m s t) (multiplied m s u) (a * b) (a * c) (product_of s t a b (own_number s) (own_number t)) (product_of s u a c (own_number s) (own_number u)));
    coded = coded;
    decoded = decoded;
    encoded = encoded;
  }
