-- Decoding by the members' codes: what has a code is found by it, and nothing else is.
use Rattle.std.proofs.Common.{◌≡◌, ℕ, ◌<◌, Bool, true, false, cond, T, List, Some, None, sym, refl, ap, ◌∙◌, subst, arith}
use Rattle.std.proofs.lemmas.Slice.Eq.{bytes_eq-Decides}
use Rattle.std.specs.Str.{bytes_eq}
use Rattle.numbers.specs.Sought.{sought}
use Rattle.numbers.specs.Numbered.{coded_by}
use Rattle.numbers.proofs.Sought.{found}
use Rattle.numbers.proofs.Logarithms.{true_from}

chosen : {A : Type 0} (b : Bool) (a x : A) → cond b (Some a) None ≡ Some x → (b ≡ true) × (a ≡ x)
chosen true a x e = (refl, cc)
chosen false a x e = let z : ◌≡◌ {A = ℕ} 0 1 = cc in absurd (omega arith)

module _ {A : Type 0} (code : A → List ℕ) (at : ℕ → A) (q : ℕ) where
  -- only codes are decoded
  pub only_codes : (bytes : List ℕ) (x : A) → coded_by code at q bytes ≡ Some x → code x ≡ bytes
  unfolding coded_by
  only_codes bytes x e =
      let k = sought (λ k. bytes_eq (code (at k)) bytes) q in
      let c = chosen (bytes_eq (code (at k)) bytes) (at k) x e in
      ap code (sym c.1) ∙ (bytes_eq-Decides (code (at k)) bytes).0 c.0

  -- a member is found by its code, if no two have one code
  pub found_by_code : ((x y : A) → code x ≡ code y → x ≡ y) → (x : A) (l : ℕ) → l < q → at l ≡ x → coded_by code at q (code x) ≡ Some x
  unfolding coded_by
  found_by_code apart x l h e =
      let test = λ (k : ℕ). bytes_eq (code (at k)) (code x) in
      let k = sought test q in
      let passes = true_from (test k) (found test l q h (subst T (sym ((bytes_eq-Decides (code (at l)) (code x)).1 (ap code e))) tt)).1 in
      ap (λ b. cond b (Some (at k)) None) passes ∙ ap (λ y. Some y) (apart (at k) x ((bytes_eq-Decides (code (at k)) (code x)).0 passes))
