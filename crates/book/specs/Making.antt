-- Work on a fresh book.
use Rattle.std.specs.Prelude.{◌≡◌, ℕ, [], Ok, Err, Result}
use Rattle.faults.specs.declared.WireFault.{WireFault}
use Rattle.book.specs.Meaning.{Meaning}

-- a book that was just made: nothing is in it
abbrev pub Fresh : ℕ → Meaning → Type 0
Fresh capacity b = (b.pairs ≡ []) × (b.capacity ≡ capacity)

-- where memory has a capacity, the work is done on a fresh book of it; else it is refused as the memory is
abbrev pub Worked : {A : Type 0} → (Meaning → A → Type 0) → Result ℕ WireFault → Result A WireFault → Type 0
Worked told (Ok capacity) (Ok a) = (b : Meaning) × Fresh capacity b × told b a
Worked told (Ok capacity) (Err e) = ⊥
Worked told (Err f) (Ok a) = ⊥
Worked told (Err f) (Err e) = e ≡ f
