-- What the calls make of the chains and of the pairs, for every sound table.
use Rattle.std.specs.Prelude.{◌≡◌, ℕ, ◌<◌, ◌≤◌, not, ◌⊎◌, [], ◌∷◌, length, filter, Result, ◌≢◌}
use Rattle.std.specs.List.{range_with_len, flat_map, ContainsAt as Has}
use Rattle.faults.specs.declared.BookFault.{BookFault}
use Rattle.book.specs.Meaning.{Pair, Exactly, others}
use Rattle.chains.specs.Tables.{Table, head, chain_of, free, cleared, marked, dropped}
use Rattle.chains.specs.Chains.{chain, pairs, of, fronted, Sound}
use Rattle.chains.specs.Calls.{Chained, Marks}

-- The table settles what mark answers and the table that it leaves, whatever way the records lie.
abbrev pub OneAnswer : Type 0
OneAnswer = (t : Table) (p : Pair) (r s : Result (Unit {0}) BookFault) (u v : Table) → Marks t p r u → Marks t p s v → (r ≡ s) × (u ≡ v)

-- A pair is in the table just where it is in its own chain.
abbrev pub Found : Type 0
Found = (t : Table) (p : Pair) → Sound t → Exactly (Chained t p) (Has (pairs t) p)

-- A cleared table is sound and holds no pair; its chains are empty, and the free chain is 1, 2, … to the last.
pub record Clears (n : ℕ) : Type 0 where
  pub sound : Sound (cleared n)
  pub pairs_left : pairs (cleared n) ≡ []
  pub chains : (c : ℕ) → c < 64 → chain (cleared n) c ≡ []
  pub free_chain : chain (cleared n) free ≡ range_with_len 1 n

abbrev pub ClearedChains : Type 0
ClearedChains = (n : ℕ) → 1 ≤ n → Clears n

-- Mark takes the first record of the free chain and puts it at the front of the pair's chain; no other
-- chain changes, and the pairs are those before and the new one.
pub record MarksOne (t : Table) (p : Pair) : Type 0 where
  pub sound : Sound (marked t p)
  pub front : chain (marked t p) (chain_of p.1) ≡ head t free ∷ chain t (chain_of p.1)
  pub taken : chain t free ≡ head t free ∷ chain (marked t p) free
  pub stay : (c : ℕ) → c < 64 → (c ≢ chain_of p.1) → chain (marked t p) c ≡ chain t c
  pub added : (q : Pair) → Exactly (Has (pairs (marked t p)) q) (Has (pairs t) q ⊎ (q ≡ p))
  pub places : length (marked t p).entries ≡ length t.entries

abbrev pub MarkedChains : Type 0
MarkedChains = (t : Table) (p : Pair) → Sound t → length p.1 ≡ 32 → (Chained t p → ⊥) → t.size < length t.entries → MarksOne t p

-- Drop leaves in each chain the records of other epochs, in their order. The others went to the front of
-- the free chain one after another, chain by chain from the first, each chain from its front.
pub record Drops (epoch : ℕ) (t : Table) : Type 0 where
  pub sound : Sound (dropped epoch t)
  pub kept : (c : ℕ) → c < 64 → chain (dropped epoch t) c ≡ filter (λ k. not (of t epoch k)) (chain t c)
  pub freed : chain (dropped epoch t) free ≡ fronted (flat_map (λ c. filter (of t epoch) (chain t c)) (range_with_len 0 64)) (chain t free)
  pub pairs_left : pairs (dropped epoch t) ≡ others epoch (pairs t)
  pub places : length (dropped epoch t).entries ≡ length t.entries

abbrev pub DroppedChains : Type 0
DroppedChains = (epoch : ℕ) (t : Table) → Sound t → Drops epoch t
