-- The words after a command: what the first of them stands for, and the words after it.
use Rattle.std.specs.Prelude.{◌≡◌, ℕ, ◌+◌, cond, ◌⊎◌, List, [], ◌∷◌, Ok, Err, vec_items, codes, Option, Result, Vec}
use Rattle.std.specs.declared.alloc.Global.{Global}
use Rattle.std.specs.Borrow.{Bor}
use Rattle.std.specs.List.{find}
use Rattle.std.specs.Option.{ok_or}
use Rattle.std.specs.Str.{bytes_eq}
use Rattle.commands.specs.Calls.{kind_of}
use Rattle.commands.specs.declared.Kind.{Kind}
use Rattle.text.specs.Decimals.{numeral}
use Rattle.text.specs.Lines.{left}
use Rattle.text.specs.declared.decimal.NumberFault.{NumberFault}
use Rattle.script.specs.Arguments.{Table, argument}
use Rattle.script.specs.declared.errors.LineFault.{LineFault}
use Rattle.script.specs.declared.errors.LineFault.TheVariants.{MissingWord, ExtraWord, NoNumber, UnknownGroup, UnknownBook, Memory}
use Rattle.script.specs.Kept.{holds}
use Rattle.script.specs.declared.reading.Arguments.{Arguments}
use Rattle.script.specs.declared.reading.Shelf.{Shelf}
use Rattle.script.specs.declared.reading.Shelf.TheVariants.{Chained, Tape}

-- the next step, or what is wrong with the line
abbrev pub then : {T U : Type 0} → Result T LineFault → (T → Result U LineFault) → Result U LineFault
then (Ok x) next = next x
then (Err f) next = Err f

-- the end of a command's words
abbrev pub at_end : ℕ → List (List ℕ) → Result (Unit {0}) LineFault
at_end at [] = Ok tt
at_end at (w ∷ ws) = Err (ExtraWord at)

-- the bytes of the first word; `at` is its number in the line
abbrev pub first_bytes : Table → ℕ → List (List ℕ) → Result (List ℕ) LineFault
first_bytes table at [] = Err (MissingWord at)
first_bytes table at (w ∷ ws) = argument table at w

-- the words after the first
abbrev pub rest_of : List (List ℕ) → List (List ℕ)
rest_of [] = []
rest_of (w ∷ ws) = ws

-- a number that is there
abbrev pub as_number : ℕ → Result ℕ NumberFault → Result ℕ LineFault
as_number at (Ok n) = Ok n
as_number at (Err f) = Err (NoNumber at)

-- the number, not above a largest one, that the first word writes
abbrev pub first_number : ℕ → ℕ → List (List ℕ) → Result ℕ LineFault
first_number most at [] = Err (MissingWord at)
first_number most at (w ∷ ws) = as_number at (numeral most w)

-- the length of an outlet: `full` is one that sixteen tokens fit
unfoldable pub room_of : ℕ → List ℕ → Result ℕ LineFault
room_of at w = cond (bytes_eq w (codes "full")) (Ok 2112) (as_number at (numeral 65536 w))

-- the length of an outlet that the first word writes
abbrev pub first_room : ℕ → List (List ℕ) → Result ℕ LineFault
first_room at [] = Err (MissingWord at)
first_room at (w ∷ ws) = room_of at w

-- the name of each kind of book
abbrev pub shelf_name : Shelf → List ℕ
shelf_name Chained = codes "chained"
shelf_name Tape = codes "tape"

-- the kind of book of a name
abbrev pub shelf_of : List ℕ → Option Shelf
shelf_of w = find (λ s. bytes_eq w (shelf_name s)) (Chained ∷ Tape ∷ [])

-- the kind of book that the first word names
abbrev pub first_shelf : ℕ → List (List ℕ) → Result Shelf LineFault
first_shelf at [] = Err (MissingWord at)
first_shelf at (w ∷ ws) = ok_or (shelf_of w) (UnknownBook at)

-- a kind of book and its length, and no more
abbrev pub shelf_and_length : ℕ → List (List ℕ) → Result (Shelf × ℕ) LineFault
shelf_and_length at ws =
    then (first_shelf at ws) (λ s. then (first_number 65536 (at + 1) (rest_of ws)) (λ n.
    then (at_end (at + 2) (rest_of (rest_of ws))) (λ _. Ok (s, n))))

-- the group that the first word names
abbrev pub first_kind : ℕ → List (List ℕ) → Result Kind LineFault
first_kind at [] = Err (MissingWord at)
first_kind at (w ∷ ws) = ok_or (kind_of w) (UnknownGroup at)

-- the group that the only word names
abbrev pub kind_at : ℕ → List (List ℕ) → Result Kind LineFault
kind_at at ws = then (first_kind at ws) (λ k. then (at_end (at + 1) (rest_of ws)) (λ _. Ok k))

-- one, two, three and four words of bytes, and no more
abbrev pub one_of : Table → ℕ → List (List ℕ) → Result (List ℕ) LineFault
one_of table at ws = then (first_bytes table at ws) (λ a. then (at_end (at + 1) (rest_of ws)) (λ _. Ok a))

abbrev pub two_of : Table → ℕ → List (List ℕ) → Result (List ℕ × List ℕ) LineFault
two_of table at ws = then (first_bytes table at ws) (λ a. then (one_of table (at + 1) (rest_of ws)) (λ b. Ok (a, b)))

abbrev pub three_of : Table → ℕ → List (List ℕ) → Result (List ℕ × List ℕ × List ℕ) LineFault
three_of table at ws = then (first_bytes table at ws) (λ a. then (two_of table (at + 1) (rest_of ws)) (λ b. Ok (a, b.0, b.1)))

abbrev pub four_of : Table → ℕ → List (List ℕ) → Result (List ℕ × List ℕ × List ℕ × List ℕ) LineFault
four_of table at ws = then (first_bytes table at ws) (λ a. then (three_of table (at + 1) (rest_of ws)) (λ b. Ok (a, b.0, b.1, b.2)))

-- the first word is taken, if there is one
abbrev pub Splits : ℕ → List (List ℕ) → List (List ℕ) → Result (Bor (List ℕ)) LineFault → Type 0
Splits at before after (Ok w) = before ≡ w.now ∷ after
Splits at before after (Err f) = (before ≡ []) × (f ≡ MissingWord at)

-- the first word is read as what it stands for, and the words after it are left
abbrev pub Heads : {T : Type 0} → (ℕ → List (List ℕ) → Result T LineFault) →
    ℕ → List (List ℕ) → List (List ℕ) → Result T LineFault → Type 0
Heads first at before after (Ok x) = (first at before ≡ Ok x) × (after ≡ rest_of before)
Heads first at before after (Err f) = first at before ≡ Err f

-- so is a number read, the length of an outlet, a kind of book, and a group
abbrev pub Numbers : ℕ → ℕ → List (List ℕ) → List (List ℕ) → Result ℕ LineFault → Type 0
Numbers most = Heads (first_number most)

abbrev pub Rooms : ℕ → List (List ℕ) → List (List ℕ) → Result ℕ LineFault → Type 0
Rooms = Heads first_room

abbrev pub Shelves : ℕ → List (List ℕ) → List (List ℕ) → Result Shelf LineFault → Type 0
Shelves = Heads first_shelf

abbrev pub Kinds : ℕ → List (List ℕ) → List (List ℕ) → Result Kind LineFault → Type 0
Kinds = Heads first_kind

-- all the words are had, or memory is wanting
abbrev pub One : Table → ℕ → List (List ℕ) → Result (Vec ℕ Global) LineFault → Type 0
One table at ws (Ok a) = one_of table at ws ≡ Ok (vec_items a)
One table at ws (Err f) = (f ≡ Memory) ⊎ (one_of table at ws ≡ Err f)

abbrev pub Two : Table → ℕ → List (List ℕ) → Result (Vec ℕ Global × Vec ℕ Global) LineFault → Type 0
Two table at ws (Ok p) = two_of table at ws ≡ Ok (vec_items p.0, vec_items p.1)
Two table at ws (Err f) = (f ≡ Memory) ⊎ (two_of table at ws ≡ Err f)

abbrev pub Three : Table → ℕ → List (List ℕ) → Result (Vec ℕ Global × Vec ℕ Global × Vec ℕ Global) LineFault → Type 0
Three table at ws (Ok p) = three_of table at ws ≡ Ok (vec_items p.0, vec_items p.1, vec_items p.2)
Three table at ws (Err f) = (f ≡ Memory) ⊎ (three_of table at ws ≡ Err f)

abbrev pub Four : Table → ℕ → List (List ℕ) → Result (Vec ℕ Global × Vec ℕ Global × Vec ℕ Global × Vec ℕ Global) LineFault → Type 0
Four table at ws (Ok p) = four_of table at ws ≡ Ok (vec_items p.0, vec_items p.1, vec_items p.2, vec_items p.3)
Four table at ws (Err f) = (f ≡ Memory) ⊎ (four_of table at ws ≡ Err f)

-- the next word is counted, and left
abbrev pub Counts : Arguments → Arguments → ℕ → Type 0
Counts before after at =
    (at ≡ before.next) × (after.next ≡ before.next + 1) × (after.words ≡ before.words) × (after.names ≡ before.names)

-- the next word is read: the words after it are left, and it is counted
abbrev pub Onward : Arguments → Arguments → Type 0
Onward before after = (after.names ≡ before.names) × (left after.words ≡ rest_of (left before.words)) × (after.next ≡ before.next + 1)

-- the next word is taken, if there is one
abbrev pub Takes : Arguments → Arguments → Result (ℕ × Bor (List ℕ)) LineFault → Type 0
Takes before after (Ok p) =
    (p.0 ≡ before.next) × (left before.words ≡ p.1.now ∷ left after.words) × (after.names ≡ before.names) × (after.next ≡ before.next + 1)
Takes before after (Err f) = (left before.words ≡ []) × (f ≡ MissingWord before.next)

-- the next word is read as what the first of the words stands for
abbrev pub Reads : {T : Type 0} → (ℕ → List (List ℕ) → Result T LineFault) → Arguments → Arguments → Result T LineFault → Type 0
Reads first before after (Ok x) = (first before.next (left before.words) ≡ Ok x) × Onward before after
Reads first before after (Err f) = first before.next (left before.words) ≡ Err f

-- the same of bytes, or memory is wanting
abbrev pub Brings : Arguments → Arguments → Result (Vec ℕ Global) LineFault → Type 0
Brings before after (Ok bs) =
    (first_bytes (holds before.names.now) before.next (left before.words) ≡ Ok (vec_items bs)) × Onward before after
Brings before after (Err f) = (f ≡ Memory) ⊎ (first_bytes (holds before.names.now) before.next (left before.words) ≡ Err f)
