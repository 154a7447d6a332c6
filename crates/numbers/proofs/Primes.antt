-- A number is prime, and a list has the first primes, by tests that antt computes.
use Rattle.std.proofs.Common.{◌≡◌, ℕ, zero, suc, ◌-◌, ◌%◌, ◌<◌, ◌≤◌, Bool, true, false, cond, not, ◌||◌, T, eqb, ltb, List, [], ◌∷◌, length, get_or, sym, ap, ◌∙◌, subst, ⊎_elim, arith, eqb→eq, ltb→lt, lt→ltb, T_not}
use Rattle.std.proofs.lemmas.Bool.{cases_lt}
use Rattle.numbers.specs.Prime.{Prime, FirstPrimes}
use Rattle.numbers.proofs.Table.{both, both_left, both_right, both_is, every, at, below, below_at}

-- d + 2 does not divide q
abbrev pub leaves : ℕ → ℕ → Bool
leaves q d = not (eqb (q % suc (suc d)) 0)

pub prime_by_test : (q : ℕ) → 1 < q → T (below (leaves q) (q - 2)) → Prime q
prime_by_test q h t = (
  h,
  λ d lo hi e.
      let two : suc (suc (d - 2)) ≡ d = omega arith in
      T_not (eqb (q % suc (suc (d - 2))) 0) (below_at (leaves q) (q - 2) t (d - 2) (omega arith))
      (subst (λ (x : ℕ). T (eqb x 0)) (sym (ap (λ (x : ℕ). q % x) two ∙ e)) tt),
)

refuted : (b : Bool) → (T b → ⊥) → T (not b)
refuted true h = absurd (h tt)
refuted false h = tt

passes : (q : ℕ) → Prime q → (n : ℕ) → n ≤ q - 2 → T (below (leaves q) n)
passes q p zero h = tt
passes q p (suc n) h =
    both_is (leaves q n) (below (leaves q) n)
    (refuted (eqb (q % suc (suc n)) 0) (λ t. p.1 (suc (suc n)) (omega arith) (omega arith) (eqb→eq (q % suc (suc n)) 0 t)))
    (passes q p n (omega arith))

-- the test of a prime
abbrev pub prime? : ℕ → Bool
prime? q = both (ltb 1 q) (below (leaves q) (q - 2))

pub prime_passes : (q : ℕ) → Prime q → T (prime? q)
prime_passes q p = both_is (ltb 1 q) (below (leaves q) (q - 2)) (lt→ltb 1 q p.0) (passes q p (q - 2) (omega arith))

-- where p first stands in a list, counted from i
abbrev place : ℕ → List ℕ → ℕ → ℕ
place p [] i = i
place p (x ∷ xs) i = cond (eqb x p) i (place p xs (suc i))

-- a prime below n stands at place i
abbrev pub small-prime? : ℕ → ℕ → ℕ → Bool
small-prime? n i p = both (ltb p n) (prime? p)

-- every entry before place j is smaller than the one there
abbrev pub tops? : List ℕ → ℕ → Bool
tops? ps j = below (λ i. ltb (get_or ps i 0) (get_or ps j 0)) j

-- p stands in the list, or is no prime
abbrev pub listed? : List ℕ → ℕ → Bool
listed? ps p = both (ltb (place p ps 0) (length ps)) (eqb (get_or ps (place p ps 0) 0) p) || not (prime? p)

either : (a b : Bool) → T (a || not b) → T b → T a
either true b t u = tt
either false true t u = t
either false false t u = absurd u

module _ (ps : List ℕ) (n : ℕ) (small : T (every (small-prime? n) 0 ps)) (tops : T (below (tops? ps) (length ps))) (listed : T (below (listed? ps) n)) where
  ordered : (i j : ℕ) → i < j → j < length ps → get_or ps i 0 < get_or ps j 0
  ordered i j h k =
      ltb→lt (get_or ps i 0) (get_or ps j 0)
      (below_at (λ i. ltb (get_or ps i 0) (get_or ps j 0)) j (below_at (tops? ps) (length ps) tops j k) i h)

  found : (p i : ℕ) → Prime p → i < length ps → p ≤ get_or ps i 0 → (j : ℕ) × (j ≤ i) × (get_or ps j 0 ≡ p)
  found p i h inside below-it =
      let bound : get_or ps i 0 < n =
      ltb→lt (get_or ps i 0) n (both_left (ltb (get_or ps i 0) n) (prime? (get_or ps i 0)) (at (small-prime? n) ps small i inside)) in
      let j = place p ps 0 in
      let t = either (both (ltb j (length ps)) (eqb (get_or ps j 0) p)) (prime? p)
      (below_at (listed? ps) n listed p (omega arith)) (prime_passes p h) in
      let within : j < length ps = ltb→lt j (length ps) (both_left (ltb j (length ps)) (eqb (get_or ps j 0) p) t) in
      let here : get_or ps j 0 ≡ p = eqb→eq (get_or ps j 0) p (both_right (ltb j (length ps)) (eqb (get_or ps j 0) p) t) in
      (j, ⊎_elim (λ (lt : i < j). absurd (let o = ordered i j lt within in omega arith)) (λ le. le) (cases_lt i j), here)

  pub first_primes : FirstPrimes ps
  first_primes = record {
    primes = λ i h.
        let t = both_right (ltb (get_or ps i 0) n) (prime? (get_or ps i 0)) (at (small-prime? n) ps small i h) in
        prime_by_test (get_or ps i 0) (ltb→lt 1 (get_or ps i 0) (both_left (ltb 1 (get_or ps i 0)) (below (leaves (get_or ps i 0)) (get_or ps i 0 - 2)) t))
        (both_right (ltb 1 (get_or ps i 0)) (below (leaves (get_or ps i 0)) (get_or ps i 0 - 2)) t);
    ascending = ordered;
    whole = found;
  }
