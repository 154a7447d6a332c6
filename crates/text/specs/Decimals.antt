-- Numbers in decimal: what a text is read as, and the law that ties it to the written form.
use Rattle.std.specs.Prelude.{◌≡◌, ℕ, ◌+◌, ◌-◌, ◌*◌, ◌^◌, ◌<◌, ◌≤◌, Bool, cond, ◌&&◌, List, [], ◌∷◌, length, Ok, Err, decimal, Result, ◌==◌, nat_lt, slice_index}
use Rattle.std.specs.List.{prefix_len}
use Rattle.text.specs.Classes.{decimal_digit}
use Rattle.text.specs.declared.decimal.NumberFault.{NumberFault}
use Rattle.text.specs.declared.decimal.NumberFault.TheVariants.{Empty, NoDigit, LeadingZero, TooLarge}

-- the number that digits write after n
abbrev pub number_after : ℕ → List ℕ → ℕ
number_after n [] = n
number_after n (c ∷ cs) = number_after (n * 10 + (c - 48)) cs

-- the number that digits write
abbrev pub number : List ℕ → ℕ
number t = number_after 0 t

-- a number that is not above the largest one
abbrev pub within : ℕ → ℕ → Result ℕ NumberFault
within most n = cond (nat_lt most n) (Err TooLarge) (Ok n)

-- a 0 in front of other digits
abbrev pub zero_first : List ℕ → Bool
zero_first t = nat_lt 1 (length t) && slice_index t 0 == 48

-- what a text is read as: its number, or the first thing that is wrong with it
unfoldable pub numeral : ℕ → List ℕ → Result ℕ NumberFault
numeral most t =
    cond (length t == 0) (Err Empty)
    (cond (nat_lt (prefix_len decimal_digit t) (length t)) (Err (NoDigit (prefix_len decimal_digit t)))
    (cond (zero_first t) (Err LeadingZero) (within most (number t))))

-- The law of reading, with `decimal n` for what `{n}` prints: the decimal form of each number up to the
-- largest is read as that number, and a text that is read is the decimal form of what it is read as.
pub record NumeralsAreDecimals : Type 0 where
  pub back : (most n : ℕ) → n ≤ most → most < 2 ^ 64 → numeral most (decimal n) ≡ Ok n
  pub only : (most n : ℕ) (t : List ℕ) → most < 2 ^ 64 → numeral most t ≡ Ok n → (n ≤ most) × (decimal n ≡ t)
