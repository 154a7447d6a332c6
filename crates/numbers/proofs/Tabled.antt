-- A numbering of a group's members by a table: that sums add the numbers, and that no member has two, are
-- one computed test each over all pairs of numbers. For a kind whose sum has too many cases for algebra.
use Rattle.std.proofs.Common.{◌≡◌, ℕ, ◌+◌, ◌%◌, ◌<◌, Bool, true, false, not, ◌||◌, T, eqb, sym, subst, eqb→eq}
use Rattle.numbers.specs.Numbered.{Numbered, Same}
use Rattle.numbers.proofs.Logarithms.{true_from}
use Rattle.numbers.proofs.Table.{below, below_at}

-- the test passes at each pair of numbers below n
abbrev pub pairs : (ℕ → ℕ → Bool) → ℕ → Bool
pairs test n = below (λ j. below (test j) n) n

pub pairs_at : (test : ℕ → ℕ → Bool) (n : ℕ) → T (pairs test n) → (j k : ℕ) → j < n → k < n → T (test j k)
pairs_at test n t j k hj hk = below_at (test j) n (below_at (λ i. below (test i) n) n t j hj) k hk

same_number : (a b : Bool) → T (a || not b) → T b → T a
same_number true b t u = tt
same_number false true t u = t
same_number false false t u = absurd u

module _ {A : Type 0} (sum : A → A → A) (same : A → A → Bool) (at : ℕ → A) (q : ℕ) where
  -- the sum of the members j and k is the member j + k
  abbrev pub adds : ℕ → ℕ → Bool
  adds j k = same (sum (at j) (at k)) (at ((j + k) % q))

  -- j and k are one number, or two members
  abbrev pub differs : ℕ → ℕ → Bool
  differs j k = eqb j k || not (same (at j) (at k))

module _ {A : Type 0} {Member : A → Type 0} (sum : A → A → A) {same : A → A → Bool} (equal : Same same) (at : ℕ → A) (q : ℕ) where
  pub numbered_by_table : 0 < q → ((k : ℕ) → k < q → Member (at k)) → ((a : A) → Member a → (k : ℕ) × (k < q) × (at k ≡ a)) →
      T (pairs (adds sum same at q) q) → T (pairs (differs sum same at q) q) → Numbered Member sum at q
  numbered_by_table some member all sums apart = record {
    some = some;
    member = member;
    all = all;
    apart = λ j k hj hk e.
        eqb→eq j k
        (same_number (eqb j k) (same (at j) (at k)) (pairs_at (differs sum same at q) q apart j k hj hk) (subst T (sym ((equal (at j) (at k)).1 e)) tt));
    sums = λ j k hj hk.
        (equal (sum (at j) (at k)) (at ((j + k) % q))).0 (true_from (adds sum same at q j k) (pairs_at (adds sum same at q) q sums j k hj hk));
  }
