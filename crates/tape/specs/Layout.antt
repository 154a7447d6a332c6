-- How a tape lies in memory: the size in two bytes, a record of 34 bytes for each pair in the order of
-- marking, and zeros up to the capacity. What lies behind is none of the tape's.
use Rattle.std.specs.Prelude.{◌≡◌, ℕ, ◌+◌, ◌-◌, ◌*◌, ◌≤◌, List, [], ◌∷◌, ◌++◌, map, length, take, drop, replicate, Ok, Err, Result}
use Rattle.std.specs.List.{range_with_len, flat_map}
use Rattle.faults.specs.declared.BookFault.{BookFault}
use Rattle.faults.specs.declared.WireFault.{WireFault}
use Rattle.book.specs.Meaning.{Pair, Apart}
use Rattle.book.specs.Rooms as rooms
use Rattle.book.specs.Words.{two, word}

-- ---- capacity

-- as many records as fit behind the size, at most 1,024; memory without a whole record is refused
abbrev pub room_in : ℕ → Result ℕ WireFault
room_in len = rooms.room_in 2 34 len

-- memory of this length has a whole record, and this is its capacity
abbrev pub RoomIn : ℕ → ℕ → Type 0
RoomIn len cap = rooms.RoomIn 2 34 len cap

-- ---- writing

-- a record: the epoch, then the nonce
abbrev pub record_of : Pair → List ℕ
record_of p = two p.0 ++ p.1

-- the whole memory of a tape: the size, the records, zeros up to the capacity, and the later bytes
unfoldable pub image : List Pair → ℕ → List ℕ → List ℕ
image ps cap later = two (length ps) ++ (flat_map record_of ps ++ (replicate (34 * (cap - length ps)) 0 ++ later))

-- ---- reading

-- where record i begins, counted from 0
abbrev pub place : ℕ → ℕ
place i = 2 + 34 * i

-- the pair of the record that begins at a byte
abbrev pub pair_at : List ℕ → ℕ → Pair
pair_at m at = (word m at, take 32 (drop (at + 2) m))

-- the pairs of the first n records
abbrev pub firsts : List ℕ → ℕ → List Pair
firsts m n = map (λ i. pair_at m (place i)) (range_with_len 0 n)

-- the pairs on a tape, in the order of marking
abbrev pub pairs_of : List ℕ → List Pair
pairs_of m = firsts m (word m 0)

-- the bytes behind the last place
abbrev pub later : List ℕ → ℕ → List ℕ
later m cap = drop (place cap) m

-- ---- what holds of a tape at all times

-- its places are some, at most 1,024, and within the memory
abbrev pub Fitting : List ℕ → ℕ → Type 0
Fitting m cap = (1 ≤ cap) × (cap ≤ 1024) × (place cap ≤ length m)

-- its memory is the image of its pairs
abbrev pub Laid : List ℕ → ℕ → Type 0
Laid m cap = m ≡ image (pairs_of m) cap (later m cap)

pub record Sound (m : List ℕ) (cap : ℕ) : Type 0 where
  pub within : word m 0 ≤ cap
  pub apart : Apart (pairs_of m)
  pub laid : Laid m cap

-- ---- what the calls leave

-- mark writes the pair behind the others; a refused one writes nothing
abbrev pub marked_image : Result (Unit {0}) BookFault → List ℕ → ℕ → Pair → List ℕ
marked_image (Ok _) m cap p = image (pairs_of m ++ p ∷ []) cap (later m cap)
marked_image (Err _) m cap p = m
