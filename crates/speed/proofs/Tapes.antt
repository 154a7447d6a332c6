-- What a work on a tape that answered says of the memory.
use Rattle.std.proofs.Common.{◌≡◌, ℕ, ◌≤◌, Bool, true, false, cond, ltb, Ok, Err, refl}
use Rattle.std.proofs.lemmas.Bool.{ltb-false}
use Rattle.faults.specs.declared.WireFault.TheVariants.{WrongLength}
use Rattle.book.specs.Meaning.{Meaning}
use Rattle.book.specs.Making.{Worked}
use Rattle.book.specs.Rooms.{room}
use Rattle.tape.specs.Layout.{room_in}

-- the memory held a record, and the work told what it tells
pub worked : {A : Type 0} (told : Meaning → A → Type 0) (len : ℕ) (a : A) → Worked told (room_in len) (Ok a) → (36 ≤ len) × ((b : Meaning) × told b a)
worked {A} told len a w =
    let P : Bool → Type 0 = λ t. ltb len 36 ≡ t → Worked told (cond t (Err WrongLength) (Ok (room 2 34 len))) (Ok a) → (36 ≤ len) × ((b : Meaning) × told b a) in
    elim (ltb len 36) as P [ true ↦ (λ e none. absurd none) | false ↦ (λ e done. (ltb-false len 36 e, (done.0, done.2))) ] refl w
