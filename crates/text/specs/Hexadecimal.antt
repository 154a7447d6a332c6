-- Bytes in hexadecimal: how they are written, what a text is read as, and the law that joins the two.
use Rattle.std.specs.Prelude.{◌≡◌, ℕ, ◌+◌, ◌-◌, ◌*◌, ◌/◌, ◌%◌, ◌<◌, ◌≤◌, Bool, cond, ◌&&◌, List, [], ◌∷◌, ◌++◌, length, take, Ok, Err, vec_items, vec_len, vec_capacity, Result, Vec, ◌==◌, ◌≢◌, nat_lt}
use Rattle.std.specs.List.{prefix_len, AllByRecursion}
use Rattle.std.specs.declared.alloc.Global.{Global}
use Rattle.text.specs.Classes.{hex_digit}
use Rattle.text.specs.declared.hex.HexFault.{HexFault}
use Rattle.text.specs.declared.hex.HexFault.TheVariants.{Wrong, Memory}

-- the digit of a number below 16: 0 to 9, then a to f
abbrev pub digit : ℕ → ℕ
digit n = cond (nat_lt n 10) (48 + n) (87 + n)

-- the number that a digit stands for
abbrev pub worth : ℕ → ℕ
worth c = cond (nat_lt c 58) (c - 48) (c - 87)

-- the written form of bytes: two digits for each, the higher first
abbrev pub written : List ℕ → List ℕ
written [] = []
written (b ∷ bs) = digit (b / 16) ∷ digit (b % 16) ∷ written bs

-- the bytes that pairs of digits stand for
abbrev pub paired : List ℕ → List ℕ
paired [] = []
paired (c ∷ []) = []
paired (h ∷ l ∷ cs) = (worth h * 16 + worth l) ∷ paired cs

-- whether a text is digits and nothing else, in pairs
abbrev pub in_pairs : List ℕ → Bool
in_pairs t = prefix_len hex_digit t == length t && length t % 2 == 0

-- what a text is read as: its bytes, or the place at which it is refused
unfoldable pub reading : List ℕ → Result (List ℕ) ℕ
reading t = cond (in_pairs t) (Ok (paired t)) (Err (prefix_len hex_digit t))

-- What `read` does to the list of bytes that it adds to, from `v` to `w`: it adds the bytes of the text;
-- or it refuses the text, and the list stays; or, where the list had no room for them, it gives up.
abbrev pub Reads : List ℕ → Vec ℕ Global → Vec ℕ Global → Result (Unit {0}) HexFault → Type 0
Reads t v w (Ok u) = (reading t ≡ Ok (paired t)) × (vec_items w ≡ vec_items v ++ paired t)
Reads t v w (Err (Wrong place)) = (reading t ≡ Err place) × (w ≡ v)
Reads t v w (Err Memory) = (reading t ≡ Ok (paired t)) × (vec_items w ≡ vec_items v) × (vec_capacity v < vec_len v + length (paired t))

-- numbers that are bytes
abbrev pub Bytes : List ℕ → Type 0
Bytes bs = AllByRecursion (λ b. b < 256) bs

-- a text with which the written form of some bytes begins
abbrev pub Begins : List ℕ → Type 0
Begins t = (bs : List ℕ) × Bytes bs × ((rest : List ℕ) × (written bs ≡ t ++ rest))

-- The law of reading. What was written is read as the bytes that it was written from, and nothing else is
-- read: a text that is read is the written form of what it is read as. A text that is refused is the
-- written form of no bytes, and its place is where it stops being like one: up to there it is how a
-- written form begins, and no further.
pub record ReadingUndoesWriting : Type 0 where
  pub back : (bs : List ℕ) → Bytes bs → reading (written bs) ≡ Ok bs
  pub only : (t bs : List ℕ) → reading t ≡ Ok bs → Bytes bs × (written bs ≡ t)
  pub none : (t : List ℕ) (place : ℕ) → reading t ≡ Err place → (bs : List ℕ) → Bytes bs → written bs ≢ t
  pub so_far : (t : List ℕ) (place : ℕ) → reading t ≡ Err place → (place ≤ length t) × Begins (take place t)
  pub no_further : (t : List ℕ) (place : ℕ) → reading t ≡ Err place → (n : ℕ) → place < n → n ≤ length t → Begins (take n t) → ⊥
