-- The records of a chained book, wherever they lie, and what clear, mark and drop do to them.
use Rattle.std.specs.Prelude.{ℕ, zero, suc, ◌+◌, ◌-◌, ◌%◌, cond, List, [], ◌∷◌, ◌++◌, map, length, replicate, ◌==◌, nat_lt, slice_index, slice_index_or, slice_set}
use Rattle.std.specs.List.{range_with_len}
use Rattle.book.specs.Meaning.{Pair}

-- a record: the number of the next one in its chain, an epoch and a nonce
pub record Entry : Type 0 where
  pub next : ℕ
  pub epoch : ℕ
  pub nonce : List ℕ

-- the heads of the chains 0 to 63 and then that of the free chain, the size, and the records 1, 2, …
pub record Table : Type 0 where
  pub heads : List ℕ
  pub size : ℕ
  pub entries : List Entry

-- a free record that ends the free chain
abbrev pub blank : Entry
blank = record { next = 0; epoch = 0; nonce = replicate 32 0 }

-- the record with a number; there is none at 0
abbrev pub entry : List Entry → ℕ → Entry
entry es zero = blank
entry es (suc k) = slice_index_or es k blank

-- the records after one was written
abbrev pub put : List Entry → ℕ → Entry → List Entry
put es zero e = es
put es (suc k) e = slice_set es k e

abbrev pub pair_of : Entry → Pair
pair_of e = (e.epoch, e.nonce)

-- a nonce's chain is its last byte modulo 64
abbrev pub chain_of : List ℕ → ℕ
chain_of nonce = slice_index nonce 31 % 64

-- the place of the free chain's head, behind the heads of the chains
abbrev pub free : ℕ
free = 64

abbrev pub head : Table → ℕ → ℕ
head t c = slice_index t.heads c

abbrev pub at : Table → ℕ → Entry
at t k = entry t.entries k

abbrev pub with_head : Table → ℕ → ℕ → Table
with_head t c v = record { heads = slice_set t.heads c v; size = t.size; entries = t.entries }

abbrev pub with_size : Table → ℕ → Table
with_size t n = record { heads = t.heads; size = n; entries = t.entries }

abbrev pub with_entry : Table → ℕ → Entry → Table
with_entry t k e = record { heads = t.heads; size = t.size; entries = put t.entries k e }

abbrev pub with_next : Table → ℕ → ℕ → Table
with_next t k v = with_entry t k (record { next = v; epoch = (at t k).epoch; nonce = (at t k).nonce })

-- all zero
abbrev pub zeroed : ℕ → Table
zeroed n = record { heads = replicate 65 0; size = 0; entries = replicate n blank }

-- clear: no pair, and the free records 1, 2, … in order
unfoldable pub cleared : ℕ → Table
cleared n = record {
  heads = replicate 64 0 ++ 1 ∷ [];
  size = 0;
  entries = map (λ k. record { next = cond (nat_lt k n) (k + 1) 0; epoch = 0; nonce = replicate 32 0 }) (range_with_len 1 n);
}

-- mark: the first free record takes the pair and goes to the front of the pair's chain
unfoldable pub marked : Table → Pair → Table
marked t p = record {
  heads = slice_set (slice_set t.heads free (at t (head t free)).next) (chain_of p.1) (head t free);
  size = t.size + 1;
  entries = put t.entries (head t free) (record { next = head t (chain_of p.1); epoch = p.0; nonce = p.1 });
}

-- what stood behind a record of a chain now stands behind the one before it, or is the chain's first
unfoldable pub bridged : Table → ℕ → ℕ → ℕ → Table
bridged t c before rest = cond (before == 0) (with_head t c rest) (with_next t before rest)

-- a record becomes zero and goes to the front of the free chain
unfoldable pub freed : Table → ℕ → Table
freed t k = record {
  heads = slice_set t.heads free k;
  size = t.size - 1;
  entries = put t.entries k (record { next = head t free; epoch = 0; nonce = replicate 32 0 });
}

-- one chain is gone through from a record on, at most so many steps, and the records of an epoch are freed
unfoldable pub swept : ℕ → ℕ → ℕ → ℕ → ℕ → Table → Table
swept epoch c zero before k t = t
swept epoch c (suc steps) before k t =
    cond (k == 0) t
    (cond ((at t k).epoch == epoch)
    (swept epoch c steps before (at t k).next (freed (bridged t c before (at t k).next) k))
    (swept epoch c steps k (at t k).next t))

-- so many chains from one on, in order, each from its front
unfoldable pub swept_from : ℕ → ℕ → ℕ → Table → Table
swept_from epoch c zero t = t
swept_from epoch c (suc n) t = swept_from epoch (c + 1) n (swept epoch c (length t.entries) 0 (head t c) t)

-- drop: the chains 0 to 63
abbrev pub dropped : ℕ → Table → Table
dropped epoch t = swept_from epoch 0 64 t
