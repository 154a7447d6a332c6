-- How a chained book lies in memory: 64 heads, the free head and the size in two bytes each, then a
-- record of 36 bytes for each place. What lies behind is none of the book's.
use Rattle.std.specs.Prelude.{◌≡◌, ℕ, ◌+◌, ◌*◌, List, ◌++◌, map, take, drop, Result}
use Rattle.std.specs.List.{range_with_len, flat_map}
use Rattle.faults.specs.declared.WireFault.{WireFault}
use Rattle.book.specs.Rooms as rooms
use Rattle.book.specs.Words.{two, word, Bytes}
use Rattle.chains.specs.Tables.{Entry, Table}

-- ---- capacity

-- as many records as fit behind the heads and the size, at most 1,024; memory without a whole record is
-- refused
abbrev pub room_in : ℕ → Result ℕ WireFault
room_in len = rooms.room_in 132 36 len

-- memory of this length has a whole record, and this is its capacity
abbrev pub RoomIn : ℕ → ℕ → Type 0
RoomIn len cap = rooms.RoomIn 132 36 len cap

-- ---- writing

-- a record: next, epoch, nonce
abbrev pub record_of : Entry → List ℕ
record_of e = two e.next ++ (two e.epoch ++ e.nonce)

-- the whole memory: the heads with the free head, the size, the records, and the later bytes
unfoldable pub image : Table → List ℕ → List ℕ
image t later = flat_map two t.heads ++ (two t.size ++ (flat_map record_of t.entries ++ later))

-- ---- reading

-- where the record of number i + 1 begins
abbrev pub place : ℕ → ℕ
place i = 132 + 36 * i

-- the record that begins at a byte
abbrev pub record_at : List ℕ → ℕ → Entry
record_at m at = record { next = word m at; epoch = word m (at + 2); nonce = take 32 (drop (at + 4) m) }

-- the table that memory holds
unfoldable pub table_of : ℕ → List ℕ → Table
table_of cap m = record {
  heads = map (λ c. word m (2 * c)) (range_with_len 0 65);
  size = word m 130;
  entries = map (λ i. record_at m (place i)) (range_with_len 0 cap);
}

-- the bytes behind the last place
abbrev pub later : List ℕ → ℕ → List ℕ
later m cap = drop (place cap) m

-- ---- what a write leaves

-- this table, the later bytes, and bytes
pub record Written (cap : ℕ) (before after : List ℕ) (t : Table) : Type 0 where
  pub table : table_of cap after ≡ t
  pub later : drop (place cap) after ≡ drop (place cap) before
  pub bytes : Bytes after
