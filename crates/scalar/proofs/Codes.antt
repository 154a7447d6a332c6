-- The code of a scalar, for all that are scalars: it decodes to the scalar, and no other bytes do.
use Rattle.std.proofs.Common.{◌≡◌, ℕ, ◌^◌, ◌<◌, Bool, true, false, cond, ◌&&◌, eqb, ltb, List, length, Some, None, sym, refl, ap, ◌∙◌, subst, mod-eq_of_lt, arith}
use Rattle.std.proofs.lemmas.Bool.{lt-ltb, eq-eqb, ltb-true, eqb-true, and_from, and_parts, cond-true}
use Rattle.numbers.specs.Bytes.{are_bytes, read, written}
use Rattle.numbers.proofs.Bytes.{length_written, bytes_written, read_written, written_read, bytes_below, below_bytes}
use Rattle.scalar.specs.Scalars.{Scalars, scalar_code, scalar_of}

taken : {X : Type 0} (b : Bool) (x y : X) → cond b (Some x) None ≡ Some y → (b ≡ true) × (x ≡ y)
taken true x y e = (refl, cc)
taken false x y e = let z : ◌≡◌ {A = ℕ} 0 1 = cc in absurd (omega arith)

module _ {S K : Type 0} (m : Scalars S K) where
  small : (s : S) → m.number s < 256 ^ m.width
  small s = let b = m.below s in let r = m.room in omega arith

  back : (s : S) → m.scalar (m.number s) ≡ s
  back s = m.faithful (m.scalar (m.number s)) s (m.full (m.number s) ∙ mod-eq_of_lt (m.below s))

  pub code_length : (s : S) → length (scalar_code m s) ≡ m.width
  unfolding scalar_code
  code_length s = length_written m.width (m.number s)

  pub code_read : (s : S) → scalar_of m (scalar_code m s) ≡ Some s
  unfolding scalar_code scalar_of
  code_read s =
      let bytes = written m.width (m.number s) in
      let value = read_written m.width (m.number s) (small s) in
      cond-true (are_bytes bytes && (eqb (length bytes) m.width && ltb (read bytes) m.order)) (Some (m.scalar (read bytes))) None
      (and_from (are_bytes bytes) (eqb (length bytes) m.width && ltb (read bytes) m.order) (below_bytes bytes (bytes_written m.width (m.number s)))
      (and_from (eqb (length bytes) m.width) (ltb (read bytes) m.order) (eq-eqb (length bytes) m.width (length_written m.width (m.number s)))
      (lt-ltb (read bytes) m.order (subst (λ (n : ℕ). n < m.order) (sym value) (m.below s))))) ∙
      ap (λ (n : ℕ). Some (m.scalar n)) value ∙ ap (λ x. Some x) (back s)

  pub read_code : (bytes : List ℕ) (s : S) → scalar_of m bytes ≡ Some s → bytes ≡ scalar_code m s
  unfolding scalar_code scalar_of
  read_code bytes s e =
      let got = taken (are_bytes bytes && (eqb (length bytes) m.width && ltb (read bytes) m.order)) (m.scalar (read bytes)) s e in
      let one = and_parts (are_bytes bytes) (eqb (length bytes) m.width && ltb (read bytes) m.order) got.0 in
      let two = and_parts (eqb (length bytes) m.width) (ltb (read bytes) m.order) one.1 in
      let long = eqb-true (length bytes) m.width two.0 in
      let value : read bytes ≡ m.number s =
      sym (mod-eq_of_lt (ltb-true (read bytes) m.order two.1)) ∙ sym (m.full (read bytes)) ∙ ap (λ x. m.number x) got.1 in
      sym (written_read bytes (bytes_below bytes one.0)) ∙ ap (λ (w : ℕ). written w (read bytes)) long ∙ ap (λ (n : ℕ). written m.width n) value
