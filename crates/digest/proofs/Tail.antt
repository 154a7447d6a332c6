-- The end of a padded message, as it is put together in a buffer.
use Rattle.std.proofs.Common.{◌≡◌, ℕ, zero, suc, ◌+◌, ◌-◌, ◌*◌, ◌<◌, ◌≤◌, List, [], ◌∷◌, ◌++◌, length, take, drop, set, replicate, sym, refl, ap, ◌∙◌, append_assoc, arith}
use borrow.Rule.Slice.PartMut.{put_mid}
use Rattle.std.proofs.lemmas.List.{append-nil, length-append, length-replicate, drop-replicate, take-replicate, set-append_right, drop-drop, drop_all, length-take-le, length-drop}
use Rattle.digest.specs.Padding.{eight_bytes, zeros_after, padding, padded, PaddingIsTheStandards}

-- n zeros from the front on, with the first of them overwritten
set_zero : (n b : ℕ) → 0 < n → set (replicate n 0) 0 b ≡ b ∷ replicate (n - 1) 0
set_zero zero b h = absurd (omega arith)
set_zero (suc n) b h = ap (λ (k : ℕ). b ∷ replicate k 0) (omega arith)

-- the zeros up to e, after what was put in front of them
take_zeros : (rest : List ℕ) (b n e : ℕ) → length rest + 1 ≤ e → e ≤ length rest + 1 + n
    → take e (rest ++ b ∷ replicate n 0) ≡ rest ++ b ∷ replicate (e - 1 - length rest) 0
take_zeros [] b n zero lo hi = absurd (omega arith)
take_zeros [] b n (suc e) lo hi =
    ap (λ (v : List ℕ). b ∷ v) (take-replicate e n 0 (omega arith) ∙ ap (λ (k : ℕ). replicate k 0) (omega arith))
take_zeros (x ∷ rest) b n zero lo hi = absurd (omega arith)
take_zeros (x ∷ rest) b n (suc e) lo hi =
    ap (λ (v : List ℕ). x ∷ v)
    (take_zeros rest b n e (omega arith) (omega arith) ∙ ap (λ (k : ℕ). rest ++ b ∷ replicate k 0) (omega arith))

-- zeros, over which the rest, the byte 0x80 and the last eight bytes are written
pub tail_is : (zs rest front last : List ℕ) (k : ℕ) → zs ≡ replicate (length zs) 0 → length rest + 9 ≤ length zs
    → front ≡ rest → length last ≡ 8 → k ≡ 8
    → put_mid (length zs - 8) k (set (front ++ drop (length rest - 0) zs) (length rest) 0x80) last
    ≡ rest ++ (0x80 ∷ (replicate (length zs - 9 - length rest) 0 ++ last))
tail_is zs rest front last k blank fits same eight width =
    let n = length rest in
    let e = length zs in
    let zeros : ◌≡◌ {A = List ℕ} (drop (n - 0) zs) (replicate (e - n) 0) =
    ap (λ (i : ℕ). drop i zs) (omega arith) ∙ ap (drop n) blank ∙ drop-replicate n e 0 in
    let begun : set (front ++ drop (n - 0) zs) n 0x80 ≡ rest ++ (0x80 ∷ replicate (e - n - 1) 0) =
    ap (λ (f : List ℕ). set (f ++ drop (n - 0) zs) n 0x80) same
    ∙ ap (λ (z : List ℕ). set (rest ++ z) n 0x80) zeros
    ∙ set-append_right rest (replicate (e - n) 0) n n 0x80 refl (omega arith)
    ∙ ap (λ (i : ℕ). rest ++ set (replicate (e - n) 0) i 0x80) (omega arith)
    ∙ ap (λ (z : List ℕ). rest ++ z) (set_zero (e - n) 0x80 (omega arith)) in
    let long : length (rest ++ (0x80 ∷ replicate (e - n - 1) 0)) ≡ e =
    length-append rest (0x80 ∷ replicate (e - n - 1) 0)
    ∙ ap (λ (i : ℕ). n + suc i) (length-replicate (e - n - 1) 0) ∙ omega arith in
    let whole = rest ++ (0x80 ∷ replicate (e - n - 1) 0) in
    let past : drop k (drop (e - 8) whole) ≡ [] =
    drop-drop k (e - 8) whole ∙ drop_all (e - 8 + k) whole (omega arith) in
    ap (λ (m : List ℕ). put_mid (e - 8) k m last) begun
    ∙ ap (λ (p : List ℕ). take (e - 8) whole ++ (last ++ p)) past
    ∙ ap (λ (p : List ℕ). take (e - 8) whole ++ p) (append-nil last)
    ∙ ap (λ (v : List ℕ). v ++ last)
    (take_zeros rest 0x80 (e - n - 1) (e - 8) (omega arith) (omega arith)
    ∙ ap (λ (i : ℕ). rest ++ (0x80 ∷ replicate i 0)) (omega arith))
    ∙ append_assoc rest (0x80 ∷ replicate (e - 9 - n) 0) last

-- where the padding fills up to e bytes
pub padding_to : (n total e : ℕ) → zeros_after total ≡ e - 9 - n
    → 0x80 ∷ (replicate (e - 9 - n) 0 ++ eight_bytes (8 * total)) ≡ padding total
unfolding padding
padding_to n total e h = ap (λ (k : ℕ). 0x80 ∷ (replicate k 0 ++ eight_bytes (8 * total))) (sym h)

-- a write to a part keeps the length
pub length_put_mid : (a k : ℕ) (xs ys : List ℕ) → a + k ≤ length xs → length ys ≡ k → length (put_mid a k xs ys) ≡ length xs
length_put_mid a k xs ys inside same =
    length-append (take a xs) (ys ++ drop k (drop a xs))
    ∙ ap (λ (n : ℕ). length (take a xs) + n) (length-append ys (drop k (drop a xs)))
    ∙ omega (arith, length-take-le a xs (omega arith), length-drop k (drop a xs), length-drop a xs)

padded_length : (m : List ℕ) → length (padded m) ≡ length m + (zeros_after (length m) + 9)
unfolding padding eight_bytes
padded_length m =
    length-append m (padding (length m))
    ∙ ap (λ (n : ℕ). length m + suc n) (length-append (replicate (zeros_after (length m)) 0) (eight_bytes (8 * length m)))
    ∙ ap (λ (n : ℕ). length m + suc (n + 8)) (length-replicate (zeros_after (length m)) 0)
    ∙ omega arith

pub standards_padding : PaddingIsTheStandards
unfolding padding
standards_padding = record {
  zeros = λ n. omega arith;
  fewest = λ n k h. omega arith;
  shape = λ n. refl;
  blocks = λ m. omega (arith, padded_length m);
}
