-- What follows from the layout, for every tape.
use Rattle.std.specs.Prelude.{◌≡◌, ℕ, List, Ok, Err}
use Rattle.std.specs.List.{AllByRecursion}
use Rattle.faults.specs.declared.WireFault.TheVariants.{WrongLength}
use Rattle.book.specs.Meaning.{Pair, Shaped}
use Rattle.tape.specs.Layout.{room_in, image, pairs_of, later, Sound}

-- What an image holds is read back from it, pair by pair and in their order.
abbrev pub ReadBack : Type 0
ReadBack = (ps : List Pair) (cap : ℕ) (rest : List ℕ) → AllByRecursion Shaped ps → pairs_of (image ps cap rest) ≡ ps

-- No byte is free: tapes of the same pairs in the same order, with the same capacity and the same later
-- bytes, are the same memory.
abbrev pub OneImage : Type 0
OneImage = (m n : List ℕ) (cap : ℕ) → Sound m cap → Sound n cap → pairs_of m ≡ pairs_of n → later m cap ≡ later n cap → m ≡ n

-- Capacities worked out.
abbrev pub Capacities : Type 0
Capacities = (room_in 0 ≡ Err WrongLength) × (room_in 35 ≡ Err WrongLength) × (room_in 36 ≡ Ok 1) × (room_in 69 ≡ Ok 1) × (room_in 70 ≡ Ok 2)
    × (room_in 34817 ≡ Ok 1023) × (room_in 34818 ≡ Ok 1024) × (room_in 65536 ≡ Ok 1024)
