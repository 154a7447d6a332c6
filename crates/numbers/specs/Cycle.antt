-- The numbers that are powers of g modulo p, of which there are q.
use Rattle.std.specs.Prelude.{◌≡◌, ℕ, ◌*◌, ◌%◌, ◌^◌, ◌<◌, Bool, true, ◌&&◌, List, [], ◌∷◌, ◌==◌, ◌≢◌, nat_eq}
use Rattle.numbers.specs.Sought.{sought}

-- A member is a number below p whose power q is one.
abbrev pub Member : ℕ → ℕ → ℕ → Type 0
Member p q a = (a < p) × (a ^ q % p ≡ 1)

-- The exponent below q at which g comes to a; 0 where there is none.
abbrev pub exponent : ℕ → ℕ → ℕ → ℕ → ℕ
exponent p g q a = sought (λ k. nat_eq (g ^ k % p) a) q

-- What makes the powers of g a group of q elements.
pub record Cycle (p g q : ℕ) : Type 0 where
  pub more : 1 < p
  pub whole : g ^ q % p ≡ 1
  pub none : (d : ℕ) → 0 < d → d < q → g ^ d % p ≢ 1
  pub all : (a : ℕ) → Member p q a → (l : ℕ) × (l < q) × (g ^ l % p ≡ a)

-- The rule of a table of powers: each entry after x is g times the one before, modulo p.
abbrev pub stepwise : ℕ → ℕ → ℕ → List ℕ → Bool
stepwise p g x [] = true
stepwise p g x (y ∷ ys) = y == x * g % p && stepwise p g y ys

-- A table of powers starts with 1.
abbrev pub are_powers : ℕ → ℕ → List ℕ → Bool
are_powers p g [] = true
are_powers p g (x ∷ xs) = x == 1 && stepwise p g x xs
