-- A search finds what is there.
use Rattle.std.proofs.Common.{◌≡◌, ℕ, zero, suc, ◌<◌, Bool, true, false, cond, T, sym, refl, subst, ⊎_elim, le_of_suc-le-suc, not-suc-le-zero, eq-or-lt_of_le, arith}
use Rattle.numbers.specs.Sought.{sought}

Found : (ℕ → Bool) → ℕ → ℕ → Type 0
Found test n k = (k < n) × T (test k)

step_by : (test : ℕ → Bool) (n k : ℕ) (b : Bool) → test n ≡ b → (b ≡ false → Found test n k) → Found test (suc n) (cond b n k)
unfolding Found
step_by test n k true e f = (omega arith, subst T (sym e) tt)
step_by test n k false e f = let h = f refl in (omega (arith, h.0), h.1)

missed : (b : Bool) → T b → b ≡ false → ⊥
missed b t e = subst T e t

pub found : (test : ℕ → Bool) (l n : ℕ) → l < n → T (test l) → (sought test n < n) × T (test (sought test n))
unfolding sought Found
found test l zero h t = absurd (not-suc-le-zero h)
found test l (suc n) h t =
    step_by test n (sought test n) (test n) refl
    (λ f. ⊎_elim
    (λ (i : suc l ≡ suc n). let same : l ≡ n = omega arith in absurd (missed (test n) (subst (λ (k : ℕ). T (test k)) same t) f))
    (λ (m : suc l < suc n). found test l n (le_of_suc-le-suc m) t)
    (eq-or-lt_of_le h))

-- where none passes, the answer is 0
pub not_found : (test : ℕ → Bool) (n : ℕ) → ((k : ℕ) → k < n → T (test k) → ⊥) → sought test n ≡ 0
unfolding sought
not_found test zero h = refl
not_found test (suc n) h =
    let rest = not_found test n (λ k l. h k (omega arith)) in
    elim (test n) as (λ b. test n ≡ b → cond b n (sought test n) ≡ 0) [
      | true ↦ λ e. absurd (h n (omega arith) (subst T (sym e) tt))
      | false ↦ λ e. rest
    ] refl
