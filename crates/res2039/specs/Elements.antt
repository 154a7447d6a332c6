-- The elements of res2039, their logarithms and their codes.
use Rattle.std.specs.Prelude.{◌≡◌, ℕ, ◌+◌, ◌*◌, ◌/◌, ◌%◌, ◌^◌, Bool, true, false, cond, ◌&&◌, List, [], ◌∷◌, length, Some, None, Option, ◌==◌, nat_lt, refl}
use Rattle.std.proofs.Common.{lit<}
use Rattle.std.proofs.lemmas.Nat.{mod_below}
use Rattle.numbers.specs.Bytes.{are_bytes, read, word}
use Rattle.numbers.specs.Cycle.{exponent}
use Rattle.numbers.proofs.Powers.{power_member}
use Rattle.res2039.specs.Powers2039.{cycle, tested_member, square_member}
use Rattle.res2039.specs.declared.residue.Residue.{Residue}

-- the exponent below 1019 at which 4 comes to the element
unfoldable pub logarithm : Residue → ℕ
logarithm x = exponent 2039 4 1019 x.value

-- the power of 4, the exponent taken modulo 1019
unfoldable pub power_of_4 : ℕ → Residue
power_of_4 n = record { value = 4 ^ (n % 1019) % 2039; member = power_member cycle (n % 1019) }

-- the number in two bytes
unfoldable pub code_of : Residue → List ℕ
code_of x = x.value / 256 ∷ x.value % 256 ∷ []

-- a number is an element if it is below 2039 and its power 1019 is one
abbrev pub is_member : ℕ → Bool
is_member a = nat_lt a 2039 && a ^ 1019 % 2039 == 1

-- the element that a number is, by the answer of that test
abbrev pub member_by : (a : ℕ) (b : Bool) → is_member a ≡ b → Option Residue
member_by a true e = Some (record { value = a; member = tested_member a e })
member_by a false e = None

-- the element that two bytes are the code of, if there is one
unfoldable pub element_of : List ℕ → Option Residue
element_of bytes = cond (are_bytes bytes && length bytes == 2) (member_by (read bytes) (is_member (read bytes)) refl) None

-- w = 1 + (N modulo 2038), where N is the word in the first 8 bytes
abbrev pub root : List ℕ → ℕ
root bytes = 1 + word bytes % 2038

-- the square of w
unfoldable pub mapped : List ℕ → Residue
mapped bytes = record {
  value = root bytes * root bytes % 2039;
  member = square_member (word bytes % 2038) (mod_below (word bytes) 2038 (lit< tt));
}
