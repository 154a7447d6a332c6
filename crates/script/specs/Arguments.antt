-- What a word after a command stands for.
use Rattle.std.specs.Prelude.{◌≡◌, ℕ, ◌+◌, ◌-◌, ◌*◌, ◌/◌, ◌<◌, cond, List, [], ◌++◌, length, take, drop, Some, None, Ok, Err, vec_items, vec_len, vec_capacity, codes, Option, Result, Vec, ◌==◌, slice_index}
use Rattle.std.specs.Borrow.{Bor}
use Rattle.std.specs.declared.alloc.Global.{Global}
use Rattle.std.specs.List.{prefix_len}
use Rattle.std.specs.Str.{bytes_eq}
use Rattle.text.specs.Classes.{name_character}
use Rattle.text.specs.Decimals.{numeral}
use Rattle.text.specs.Hexadecimal.{reading}
use Rattle.text.specs.declared.decimal.NumberFault.{NumberFault}
use Rattle.text.specs.declared.hex.HexFault.{HexFault}
use Rattle.text.specs.declared.hex.HexFault.TheVariants as hex
use Rattle.text.specs.declared.hex.HexFault.TheVariants.{Wrong}
use Rattle.script.specs.declared.errors.LineFault.{LineFault}
use Rattle.script.specs.declared.errors.LineFault.TheVariants.{WrongDigit, UnknownName, NoToken, Memory}

-- what a table gives for a name
abbrev pub Table : Type 0
Table = List ℕ → Option (List ℕ)

-- token k of those that stand one after another, 132 bytes each, counted from 1
abbrev pub token_at : ℕ → List ℕ → List ℕ
token_at k bs = take 132 (drop ((k - 1) * 132) bs)

-- a token that is there
abbrev pub numbered : ℕ → List ℕ → Result ℕ NumberFault → Result (List ℕ) LineFault
numbered at bs (Err f) = Err (NoToken at)
numbered at bs (Ok k) = cond (k == 0) (Err (NoToken at)) (Ok (token_at k bs))

-- all of the bytes; or, after a dot, one token of them
abbrev pub picked : ℕ → List ℕ → List ℕ → Result (List ℕ) LineFault
picked at bs rest =
    cond (length rest == 0) (Ok bs)
    (cond (slice_index rest 0 == 46) (numbered at bs (numeral (length bs / 132) (drop 1 rest))) (Err (UnknownName at)))

-- what is kept under a name, if anything is, or a token of it
abbrev pub from_name : ℕ → List ℕ → Option (List ℕ) → Result (List ℕ) LineFault
from_name at rest None = Err (UnknownName at)
from_name at rest (Some bs) = picked at bs rest

-- the text after `$`: a name, and what follows it
abbrev pub recalled : Table → ℕ → List ℕ → Result (List ℕ) LineFault
recalled table at t = from_name at (drop (prefix_len name_character t) t) (table (take (prefix_len name_character t) t))

-- why bytes in hexadecimal are not had
abbrev pub misreading : ℕ → HexFault → LineFault
misreading at (Wrong place) = WrongDigit at place
misreading at hex.Memory = Memory

-- bytes in hexadecimal
abbrev pub as_bytes : ℕ → Result (List ℕ) ℕ → Result (List ℕ) LineFault
as_bytes at (Ok bs) = Ok bs
as_bytes at (Err place) = Err (WrongDigit at place)

-- what a word stands for: `-` the empty string, `$` and a name what is kept, any other the bytes it writes
abbrev pub argument : Table → ℕ → List ℕ → Result (List ℕ) LineFault
argument table at w =
    cond (bytes_eq w (codes "-")) (Ok []) (cond (slice_index w 0 == 36) (recalled table at (drop 1 w)) (as_bytes at (reading w)))

-- The bytes that a word stands for are added to `v`, which becomes `w`; or the word is refused, and v stays;
-- or, where v has no room for the bytes, memory may be wanting.
abbrev pub Adds : Result (List ℕ) LineFault → Vec ℕ Global → Vec ℕ Global → Result (Unit {0}) LineFault → Type 0
Adds (Ok bs) v w (Ok u) = vec_items w ≡ vec_items v ++ bs
Adds (Ok bs) v w (Err f) = (f ≡ Memory) × (vec_items w ≡ vec_items v) × (vec_capacity v < vec_len v + length bs)
Adds (Err g) v w (Ok u) = ⊥
Adds (Err g) v w (Err f) = (f ≡ g) × (vec_items w ≡ vec_items v)

-- the bytes are lent as they are
abbrev pub Picks : Result (List ℕ) LineFault → Result (Bor (List ℕ)) LineFault → Type 0
Picks (Ok bs) (Ok part) = part.now ≡ bs
Picks (Ok bs) (Err f) = ⊥
Picks (Err g) (Ok part) = ⊥
Picks (Err g) (Err f) = f ≡ g
