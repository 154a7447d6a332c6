-- The written form of bytes, byte by byte. Assumes nothing.
use Rattle.std.proofs.Common.{◌≡◌, ℕ, ◌+◌, ◌*◌, ◌/◌, ◌%◌, ◌<◌, List, [], ◌∷◌, ◌++◌, length, get_or, take, sym, refl, ap, ◌∙◌, append_assoc, arith}
use Rattle.std.proofs.lemmas.List.{take_more}
use Rattle.text.specs.Hexadecimal.{digit, written}

written_append : (xs ys : List ℕ) → written (xs ++ ys) ≡ written xs ++ written ys
written_append [] ys = refl
written_append (x ∷ xs) ys = ap (λ l. digit (x / 16) ∷ digit (x % 16) ∷ l) (written_append xs ys)

pub length_written : (bs : List ℕ) → length (written bs) ≡ length bs * 2
length_written [] = refl
length_written (b ∷ bs) = omega (arith, length_written bs)

-- one byte more is two characters more
pub written_more : (before bs : List ℕ) (i h l : ℕ) → i < length bs → h ≡ digit (get_or bs i 0 / 16) → l ≡ digit (get_or bs i 0 % 16) →
    ((before ++ written (take i bs)) ++ h ∷ []) ++ l ∷ [] ≡ before ++ written (take (i + 1) bs)
written_more before bs i h l in_List high low =
    let b = get_or bs i 0 in
    append_assoc (before ++ written (take i bs)) (h ∷ []) (l ∷ []) ∙ append_assoc before (written (take i bs)) (h ∷ l ∷ [])
    ∙ ap (λ t. before ++ t) ((λ k. written (take i bs) ++ high k ∷ low k ∷ []) ∙ sym (written_append (take i bs) (b ∷ [])) ∙ ap written (sym (take_more bs i 0 in_List)))
