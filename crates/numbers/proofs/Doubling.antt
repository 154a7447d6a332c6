-- Doubling: of n of x, half of n is left, and what is joined is twice as much.
use Rattle.std.proofs.Common.{◌≡◌, ℕ, zero, suc, ◌+◌, ◌/◌, ◌%◌, sym, refl, ap, ◌∙◌, arith}
use Rattle.numbers.proofs.Mod.{half_odd, half_even}
use Rattle.numbers.specs.Repeated.{JoinLaws, repeated}

module _ {M : Type 0} (null : M) (join : M → M → M) where
  pub no_more : (x : M) → repeated null join 0 x ≡ null
  unfolding repeated
  no_more x = refl

  pub one_more : (n : ℕ) (x : M) → repeated null join (suc n) x ≡ join (repeated null join n x) x
  unfolding repeated
  one_more n x = refl

  -- what the null and joins have in common
  abbrev pub Whole : M → Type 0
  Whole x = join null x ≡ x

  -- a total so far, and what is left, make what is wanted
  abbrev pub Makes : M → ℕ → M → M → Type 0
  Makes total left doubled wanted = Whole total × (join total (repeated null join left doubled) ≡ wanted)

module _ {M : Type 0} {null : M} {join : M → M → M} (laws : JoinLaws null join) where
  whole : (n : ℕ) (x : M) → Whole null join (repeated null join n x)
  whole zero x = ap (join null) (no_more null join x) ∙ laws.nothing ∙ sym (no_more null join x)
  whole (suc n) x = ap (join null) (one_more null join n x) ∙ laws.neutral (repeated null join n x) x ∙ sym (one_more null join n x)

  twice : (n : ℕ) (x : M) → repeated null join n (join x x) ≡ repeated null join (n + n) x
  twice zero x = no_more null join (join x x) ∙ sym (no_more null join x)
  twice (suc n) x =
      let more : suc (suc (n + n)) ≡ suc n + suc n = omega arith in
      one_more null join n (join x x) ∙ ap (λ t. join t (join x x)) (twice n x) ∙ sym (laws.grouped (repeated null join (n + n) x) x x) ∙
      ap (λ t. join t x) (sym (one_more null join (n + n) x)) ∙ sym (one_more null join (suc (n + n)) x) ∙ ap (λ (k : ℕ). repeated null join k x) more

  pub begun : (start : M) (n : ℕ) (x : M) → start ≡ null → Makes null join start n x (repeated null join n x)
  begun start n x e = (ap (join null) e ∙ laws.nothing ∙ sym e, ap (λ t. join t (repeated null join n x)) e ∙ whole n x)

  pub turn_odd : (total doubled wanted more next : M) (left : ℕ) → left % 2 ≡ 1 → more ≡ join total doubled → next ≡ join doubled doubled →
      Makes null join total left doubled wanted → Makes null join more (left / 2) next wanted
  turn_odd total doubled wanted more next left odd e f made =
      let h = left / 2 in
      let all : suc (h + h) ≡ left = omega (arith, half_odd left odd) in
      let rest = repeated null join (h + h) doubled in (
        ap (join null) e ∙ laws.neutral total doubled ∙ sym e,
        ap (λ t. join t (repeated null join h next)) e ∙ ap (λ d. join (join total doubled) (repeated null join h d)) f ∙
            ap (join (join total doubled)) (twice h doubled) ∙ laws.grouped total doubled rest ∙
            ap (join total) (laws.swapped doubled rest ∙ sym (one_more null join (h + h) doubled) ∙ ap (λ (k : ℕ). repeated null join k doubled) all) ∙ made.1,
      )

  pub turn_even : (total doubled wanted more next : M) (left : ℕ) → (left % 2 ≡ 1 → ⊥) → more ≡ total → next ≡ join doubled doubled →
      Makes null join total left doubled wanted → Makes null join more (left / 2) next wanted
  turn_even total doubled wanted more next left even e f made =
      let h = left / 2 in
      let all : h + h ≡ left = sym (half_even left even) in (
        ap (join null) e ∙ made.0 ∙ sym e,
        ap (λ t. join t (repeated null join h next)) e ∙ ap (λ d. join total (repeated null join h d)) f ∙
            ap (join total) (twice h doubled ∙ ap (λ (k : ℕ). repeated null join k doubled) all) ∙ made.1,
      )

  pub ended : (total doubled wanted : M) (left : ℕ) → left ≡ 0 → Makes null join total left doubled wanted → total ≡ wanted
  ended total doubled wanted left none made =
      sym (ap (λ (k : ℕ). join total (repeated null join k doubled)) none ∙ ap (join total) (no_more null join doubled) ∙ laws.swapped total null ∙ made.0) ∙ made.1
