-- Which characters are of a kind.
use Rattle.std.specs.Prelude.{ℕ, Bool, not, ◌&&◌, ◌||◌, ◌==◌, nat_le}
use Rattle.text.specs.declared.class.Class.{Class}
use Rattle.text.specs.declared.class.Class.TheVariants.{Hexadecimal, Decimal, Blank, Solid, Code, Name}

-- 0 to 9
abbrev pub decimal_digit : ℕ → Bool
decimal_digit c = nat_le 48 c && nat_le c 57

-- 0 to 9, and a to f
abbrev pub hex_digit : ℕ → Bool
hex_digit c = decimal_digit c || (nat_le 97 c && nat_le c 102)

-- a space, a tab or a carriage return
abbrev pub blank : ℕ → Bool
blank c = c == 32 || (c == 9 || c == 13)

-- anything but a blank
abbrev pub solid : ℕ → Bool
solid c = not (blank c)

-- anything but the character that starts a comment
abbrev pub code : ℕ → Bool
code c = not (c == 35)

-- a letter, a digit or `_`
abbrev pub name_character : ℕ → Bool
name_character c = ((nat_le 65 c && nat_le c 90) || c == 95) || ((nat_le 97 c && nat_le c 122) || decimal_digit c)

abbrev pub belongs : Class → ℕ → Bool
belongs Hexadecimal = hex_digit
belongs Decimal = decimal_digit
belongs Blank = blank
belongs Solid = solid
belongs Code = code
belongs Name = name_character
