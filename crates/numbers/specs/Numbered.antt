-- A group whose members are numbered 0 to q − 1 so that a sum adds the numbers: they are the logarithms.
use Rattle.std.specs.Prelude.{◌≡◌, ℕ, ◌+◌, ◌%◌, ◌<◌, Bool, cond, List, Some, None, Decides, Option}
use Rattle.std.specs.Str.{bytes_eq}
use Rattle.numbers.specs.Sought.{sought}

pub record Numbered {A : Type 0} (Member : A → Type 0) (sum : A → A → A) (at : ℕ → A) (q : ℕ) : Type 0 where
  -- there is one member at least: the null, with number 0
  pub some : 0 < q
  -- each number is a member's
  pub member : (k : ℕ) → k < q → Member (at k)
  -- each member has a number
  pub all : (a : A) → Member a → (k : ℕ) × (k < q) × (at k ≡ a)
  -- no member has two
  pub apart : (j k : ℕ) → j < q → k < q → at j ≡ at k → j ≡ k
  -- a sum adds the numbers
  pub sums : (j k : ℕ) → j < q → k < q → sum (at j) (at k) ≡ at ((j + k) % q)

-- a test of whether two members are the same
abbrev pub Same : {A : Type 0} → (A → A → Bool) → Type 0
Same {A} same = (a b : A) → Decides (same a b) (a ≡ b)

-- the number of a member
abbrev pub number_of : {A : Type 0} → (A → A → Bool) → (ℕ → A) → ℕ → A → ℕ
number_of same at q a = sought (λ k. same (at k) a) q

-- the member that has the bytes as its code, if there is one
unfoldable pub coded_by : {A : Type 0} → (A → List ℕ) → (ℕ → A) → ℕ → List ℕ → Option A
coded_by code at q bytes =
    let k = sought (λ k. bytes_eq (code (at k)) bytes) q in
    cond (bytes_eq (code (at k)) bytes) (Some (at k)) None
