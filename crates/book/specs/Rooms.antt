-- How many records fit memory: a head of so many bytes, and behind it records of so many bytes for one.
use Rattle.std.specs.Prelude.{◌≡◌, ℕ, ◌+◌, ◌-◌, ◌*◌, ◌/◌, ◌<◌, ◌≤◌, min, cond, Ok, Err, Result, nat_lt}
use Rattle.faults.specs.declared.WireFault.{WireFault}
use Rattle.faults.specs.declared.WireFault.TheVariants.{WrongLength}

-- as many records as fit behind the head, at most 1,024
abbrev pub room : ℕ → ℕ → ℕ → ℕ
room head one len = min 1024 ((len - head) / one)

-- memory without a whole record is refused
abbrev pub room_in : ℕ → ℕ → ℕ → Result ℕ WireFault
room_in head one len = cond (nat_lt len (head + one)) (Err WrongLength) (Ok (room head one len))

-- memory of this length has a whole record, and this is its capacity
abbrev pub RoomIn : ℕ → ℕ → ℕ → ℕ → Type 0
RoomIn head one len cap = (head + one ≤ len) × (cap ≡ room head one len)

-- The capacity is the largest number of whole records, up to 1,024, and memory is refused just where it
-- holds none.
abbrev pub Most : ℕ → ℕ → ℕ → Result ℕ WireFault → Type 0
Most head one len (Ok n) = (1 ≤ n) × (n ≤ 1024) × (head + one * n ≤ len) × (n < 1024 → len < head + one * (n + 1))
Most head one len (Err f) = (len < head + one) × (f ≡ WrongLength)
