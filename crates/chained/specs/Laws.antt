-- What follows from the layout, for every chained book.
use Rattle.std.specs.Prelude.{◌≡◌, ℕ, ◌≤◌, List, length, Ok, Err, Result}
use Rattle.faults.specs.declared.BookFault.{BookFault}
use Rattle.faults.specs.declared.WireFault.TheVariants.{WrongLength}
use Rattle.book.specs.Meaning.{Pair}
use Rattle.chains.specs.Tables.{marked}
use Rattle.book.specs.Words.{Bytes}
use Rattle.chained.specs.Layout.{room_in, place, table_of, image, later}

-- Capacities worked out: 204 bytes have two places, 203 and 168 have one, 167 are refused; 36,996 have the most.
abbrev pub Capacities : Type 0
Capacities = (room_in 204 ≡ Ok 2) × (room_in 203 ≡ Ok 1) × (room_in 168 ≡ Ok 1) × (room_in 167 ≡ Err WrongLength)
    × (room_in 0 ≡ Err WrongLength) × (room_in 36995 ≡ Ok 1023) × (room_in 36996 ≡ Ok 1024) × (room_in 65536 ≡ Ok 1024)

-- Memory is the image of the table that is read from it: no byte in front of the later ones is free.
abbrev pub OneImage : Type 0
OneImage = (cap : ℕ) (m : List ℕ) → place cap ≤ length m → Bytes m → m ≡ image (table_of cap m) (later m cap)

-- after a mark the memory is the image of the table that mark makes; after a refusal it is what it was
abbrev pub marked_image : Result (Unit {0}) BookFault → ℕ → List ℕ → Pair → List ℕ
marked_image (Ok _) cap m p = image (marked (table_of cap m) p) (later m cap)
marked_image (Err _) cap m p = m
