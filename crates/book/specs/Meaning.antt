-- What a spent book means, and what each of its calls does to that meaning.
use Rattle.std.specs.Prelude.{◌≡◌, ℕ, ◌+◌, ◌^◌, ◌<◌, ◌≤◌, not, ◌⊎◌, List, length, Ok, Err, filter, Result, ◌==◌, ◌≢◌, slice_index_or}
use Rattle.std.specs.List.{ContainsAt as Has, AllByRecursion}
use Rattle.faults.specs.declared.BookFault.{BookFault}
use Rattle.faults.specs.declared.BookFault.TheVariants.{Spent, Full}

-- a pair: an epoch and a nonce
abbrev pub Pair : Type 0
Pair = ℕ × List ℕ

-- a nonce has 32 bytes
abbrev pub Shaped : Pair → Type 0
Shaped p = length p.1 ≡ 32

-- no pair stands in two places
abbrev pub Apart : List Pair → Type 0
Apart ps = (i j : ℕ) (d : Pair) → (i < j) × (j < length ps) × (slice_index_or ps i d ≡ slice_index_or ps j d) → ⊥

-- A book means a set of pairs and a capacity. The set is given by a list without repetition, whose
-- order tells nothing.
pub record Meaning : Type 0 where
  pub pairs : List Pair
  pub capacity : ℕ
  pub apart : Apart pairs
  pub within : length pairs ≤ capacity
  pub some : 1 ≤ capacity
  pub small : capacity < 2 ^ 16
  pub shaped : AllByRecursion Shaped pairs

-- the pair is in the book
abbrev pub In : Meaning → Pair → Type 0
In b p = Has b.pairs p

-- how many pairs are in the book
abbrev pub size_of : Meaning → ℕ
size_of b = length b.pairs

-- the one holds where the other does
abbrev pub Exactly : Type 0 → Type 0 → Type 0
Exactly P Q = (P → Q) × (Q → P)

-- afterwards exactly these pairs are in the book, and its capacity has not changed
pub record Becomes (before : Meaning) (These : Pair → Type 0) (after : Meaning) : Type 0 where
  pub these : (q : Pair) → Exactly (In after q) (These q)
  pub room : after.capacity ≡ before.capacity

-- two meanings of one set and one capacity
abbrev pub Alike : Meaning → Meaning → Type 0
Alike before after = Becomes before (In before) after

-- clear takes every pair out
abbrev pub Cleared : Meaning → Meaning → Type 0
Cleared before after = Becomes before (λ _. ⊥) after

-- mark refuses a pair that is in the book as spent, then any pair where the book is full, and else
-- adds it; after a refusal the set is what it was
abbrev pub Marked : Meaning → Pair → Result (Unit {0}) BookFault → Meaning → Type 0
Marked before p (Ok _) after = (In before p → ⊥) × (size_of before < before.capacity) × Becomes before (λ q. In before q ⊎ (q ≡ p)) after
Marked before p (Err Spent) after = In before p × Alike before after
Marked before p (Err Full) after = (In before p → ⊥) × (size_of before ≡ before.capacity) × Alike before after

-- drop takes out the pairs of an epoch, and answers how many they were
abbrev pub Dropped : Meaning → ℕ → ℕ → Meaning → Type 0
Dropped before epoch r after = Becomes before (λ q. In before q × (q.0 ≢ epoch)) after × (r + size_of after ≡ size_of before)

-- the pairs of other epochs, in their order: for a kind that tells how its pairs lie
abbrev pub others : ℕ → List Pair → List Pair
others epoch ps = filter (λ p. not (p.0 == epoch)) ps
