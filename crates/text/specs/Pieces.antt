-- How the pieces of a line are spelt.
use Rattle.std.specs.Prelude.{ℕ, List, decimal}
use Rattle.std.specs.List.{flat_map}
use Rattle.text.specs.Hexadecimal.{written}
use Rattle.text.specs.declared.pieces.Piece.{Piece}
use Rattle.text.specs.declared.pieces.Piece.TheVariants.{Number, Text, Bytes}

-- a number in decimal, a text as it is, bytes in hexadecimal
abbrev pub spelt : Piece → List ℕ
spelt (Number n) = decimal n
spelt (Text t) = t.now
spelt (Bytes bs) = written bs.now

-- one piece after another
abbrev pub all_spelt : List Piece → List ℕ
all_spelt ps = flat_map spelt ps
