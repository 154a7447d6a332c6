-- What a table means: its chains as lists of record numbers, and the pairs in them.
use Rattle.std.specs.Prelude.{◌≡◌, ℕ, zero, suc, ◌+◌, ◌<◌, ◌≤◌, Bool, cond, List, [], ◌∷◌, map, length, replicate, ◌==◌, slice_index}
use Rattle.std.specs.List.{range_with_len, flat_map}
use Rattle.book.specs.Meaning.{Pair, Apart}
use Rattle.chains.specs.Tables.{Entry, Table, entry, at, head, pair_of, chain_of, free}

-- the numbers from one on, along `next`, until zero, at most so many
unfoldable pub walk : List Entry → ℕ → ℕ → List ℕ
walk es zero k = []
walk es (suc steps) k = cond (k == 0) [] (k ∷ walk es steps (entry es k).next)

-- the number at which that walk stands in the end: zero where the chain has ended
unfoldable pub stop : List Entry → ℕ → ℕ → ℕ
stop es zero k = k
stop es (suc steps) k = cond (k == 0) 0 (stop es steps (entry es k).next)

-- a chain's records, from its front; no chain is longer than there are records
abbrev pub chain : Table → ℕ → List ℕ
chain t c = walk t.entries (length t.entries) (head t c)

-- the records that hold pairs, chain by chain
abbrev pub used : Table → List ℕ
used t = flat_map (chain t) (range_with_len 0 64)

-- the pairs in a table
unfoldable pub pairs : Table → List Pair
pairs t = map (λ k. pair_of (at t k)) (used t)

-- whether a record is of an epoch
abbrev pub of : Table → ℕ → ℕ → Bool
of t epoch k = (at t k).epoch == epoch

-- numbers go to the front of a list, one after another
abbrev pub fronted : List ℕ → List ℕ → List ℕ
fronted [] ks = ks
fronted (j ∷ js) ks = fronted js (j ∷ ks)

-- What every table of a book keeps to.
-- there are 64 chains and the free chain, and each nonce has 32 bytes
abbrev pub ShapedTable : Table → Type 0
ShapedTable t = (length t.heads ≡ 65) × ((k : ℕ) → length (at t k).nonce ≡ 32)

-- each chain ends
abbrev pub Ended : Table → Type 0
Ended t = (c : ℕ) → c ≤ free → stop t.entries (length t.entries) (head t c) ≡ 0

-- and leads over records that are there
abbrev pub Within : Table → Type 0
Within t = (c i : ℕ) → (c ≤ free) × (i < length (chain t c)) → slice_index (chain t c) i ≤ length t.entries

-- each pair is in its chain
abbrev pub Placed : Table → Type 0
Placed t = (c i : ℕ) → (c < free) × (i < length (chain t c)) → chain_of (at t (slice_index (chain t c) i)).nonce ≡ c

-- no record of a chain is free
abbrev pub Unfree : Table → Type 0
Unfree t = (c i j : ℕ) → (c < free) × (i < length (chain t c)) × (j < length (chain t free)) × (slice_index (chain t free) j ≡ slice_index (chain t c) i) → ⊥

-- a free record has epoch zero and a nonce of zeros
abbrev pub Epochless : Table → Type 0
Epochless t = (j : ℕ) → j < length (chain t free) → (at t (slice_index (chain t free) j)).epoch ≡ 0

abbrev pub Nonceless : Table → Type 0
Nonceless t = (j : ℕ) → j < length (chain t free) → (at t (slice_index (chain t free) j)).nonce ≡ replicate 32 0

-- the size is the number of pairs, and the other records are free
abbrev pub Counted : Table → Type 0
Counted t = (t.size ≡ length (used t)) × (length (used t) + length (chain t free) ≡ length t.entries)

abbrev pub Sound : Table → Type 0
Sound t = ShapedTable t × Ended t × Within t × Placed t × Unfree t × (Epochless t × Nonceless t) × Counted t × Apart (pairs t)
