-- Memory is the image of its table. Assumes nothing.
use Rattle.std.proofs.Common.{◌≡◌, ℕ, zero, suc, ◌+◌, ◌*◌, ◌/◌, ◌%◌, ◌<◌, ◌≤◌, List, [], ◌∷◌, ◌++◌, map, length, get_or, take, drop, sym, refl, ap, ◌∙◌, arith}
use Rattle.std.specs.List.{range_with_len, flat_map}
use Rattle.std.proofs.lemmas.List.{drop_more, drop-drop, take-append-drop}
use Rattle.book.specs.Words.{word, two, Bytes}
use Rattle.chained.specs.Layout.{place, record_of, record_at, table_of, image}
use Rattle.chained.specs.Laws.{OneImage}

-- ---- lists cut into parts
pub take_add : (a b : ℕ) (xs : List ℕ) → take (a + b) xs ≡ take a xs ++ take b (drop a xs)
take_add zero b xs = let e : 0 + b ≡ b = omega arith in ap (λ n. take n xs) e
take_add (suc a) b [] = (let e : suc a + b ≡ suc (a + b) = omega arith in ap (λ n. take n []) e) ∙ sym (nothing b)
  where
    nothing : (b : ℕ) → take {A = ℕ} b [] ≡ []
    nothing zero = refl
    nothing (suc b) = refl
take_add (suc a) b (x ∷ xs) = (let e : suc a + b ≡ suc (a + b) = omega arith in ap (λ n. take n (x ∷ xs)) e) ∙ ap (λ w. x ∷ w) (take_add a b xs)

joined_map : {X Y : Type 0} (f : Y → List ℕ) (g : X → Y) (xs : List X) → flat_map f (map g xs) ≡ flat_map (λ x. f (g x)) xs
joined_map f g [] = refl
joined_map f g (x ∷ xs) = ap (λ w. f (g x) ++ w) (joined_map f g xs)

-- parts of one width, one after another
joined_cut : (f : ℕ → List ℕ) (w base : ℕ) (m : List ℕ) (a n : ℕ) → ((i : ℕ) → a ≤ i → i < a + n → f i ≡ take w (drop (base + w * i) m))
    → flat_map f (range_with_len a n) ≡ take (w * n) (drop (base + w * a) m)
joined_cut f w base m a zero s = let e : w * 0 ≡ 0 = omega (arith, native.Mathlib.Nat.mul-zero w) in ap (λ k. take k (drop (base + w * a) m)) (sym e)
joined_cut f w base m a (suc n) s =
    let here = s a (omega arith) (omega arith) in
    let rest = joined_cut f w base m (a + 1) n (λ i lo hi. s i (omega arith) (omega arith)) in
    let next : base + w * a + w ≡ base + w * (a + 1) = omega (arith, native.Mathlib.Nat.mul-add w a 1) in
    let more : w * suc n ≡ w + w * n = omega (arith, native.Mathlib.Nat.mul-suc w n) in
    ap (λ x. x ++ flat_map f (range_with_len (a + 1) n)) here
    ∙ ap (λ x. take w (drop (base + w * a) m) ++ x) (rest ∙ ap (λ k. take (w * n) (drop k m)) (sym next) ∙ ap (take (w * n)) (sym (drop-drop w (base + w * a) m)))
    ∙ sym (take_add w (w * n) (drop (base + w * a) m))
    ∙ ap (λ k. take k (drop (base + w * a) m)) (sym more)

-- ---- numbers in two bytes
two_is : (a b : ℕ) → b < 256 → two (a * 256 + b) ≡ a ∷ b ∷ []
two_is a b lt =
    let q : (a * 256 + b) / 256 ≡ a = omega arith in
    let r : (a * 256 + b) % 256 ≡ b = omega arith in
    cc

two_at : (m : List ℕ) (at : ℕ) → at + 2 ≤ length m → Bytes m → two (word m at) ≡ take 2 (drop at m)
two_at m at fits bytes =
    two_is (get_or m at 0) (get_or m (at + 1) 0) (bytes (at + 1))
    ∙ sym (ap (take 2) (drop_more m at 0 (omega arith)) ∙ ap (λ w. get_or m at 0 ∷ take 1 w) (drop_more m (at + 1) 0 (omega arith)))

record_is : (m : List ℕ) (at : ℕ) → at + 36 ≤ length m → Bytes m → record_of (record_at m at) ≡ take 36 (drop at m)
record_is m at fits bytes =
    ap (λ w. w ++ (two (word m (at + 2)) ++ take 32 (drop (at + 4) m))) (two_at m at (omega arith) bytes)
    ∙ ap (λ w. take 2 (drop at m) ++ (w ++ take 32 (drop (at + 4) m))) (two_at m (at + 2) (omega arith) bytes)
    ∙ sym (take_add 2 34 (drop at m)
    ∙ ap (λ w. take 2 (drop at m) ++ take 34 w) (drop-drop 2 at m)
    ∙ ap (λ w. take 2 (drop at m) ++ w) (take_add 2 32 (drop (at + 2) m)
    ∙ ap (λ w. take 2 (drop (at + 2) m) ++ take 32 w) (drop-drop 2 (at + 2) m ∙ (let e : at + 2 + 2 ≡ at + 4 = omega arith in ap (λ k. drop k m) e))))

-- ---- the whole
pub one_image : OneImage
unfolding image table_of
one_image cap m fits bytes =
    let heads : flat_map two (map (λ c. word m (2 * c)) (range_with_len 0 65)) ≡ take 130 m =
    joined_map two (λ c. word m (2 * c)) (range_with_len 0 65)
    ∙ joined_cut (λ c. two (word m (2 * c))) 2 0 m 0 65 (λ c lo hi. two_at m (2 * c) (omega arith) bytes ∙ (let e : 2 * c ≡ 0 + 2 * c = omega arith in ap (λ k. take 2 (drop k m)) e)) in
    let size : two (word m 130) ≡ take 2 (drop 130 m) = two_at m 130 (omega arith) bytes in
    let rows : flat_map record_of (map (λ i. record_at m (place i)) (range_with_len 0 cap)) ≡ take (36 * cap) (drop 132 m) =
    joined_map record_of (λ i. record_at m (place i)) (range_with_len 0 cap)
    ∙ joined_cut (λ i. record_of (record_at m (place i))) 36 132 m 0 cap (λ i lo hi. record_is m (place i) (omega arith) bytes) in
    let tail : drop (place cap) m ≡ drop (36 * cap) (drop 132 m) = sym (drop-drop (36 * cap) 132 m) in
    sym (take-append-drop 130 m)
    ∙ ap (λ w. take 130 m ++ w) (sym (take-append-drop 2 (drop 130 m)) ∙ ap (λ w. take 2 (drop 130 m) ++ w) (drop-drop 2 130 m ∙ sym (take-append-drop (36 * cap) (drop 132 m))))
    ∙ ap (λ w. take 130 m ++ (take 2 (drop 130 m) ++ (take (36 * cap) (drop 132 m) ++ w))) (sym tail)
    ∙ sym (ap (λ w. w ++ (two (word m 130) ++ (flat_map record_of (map (λ i. record_at m (place i)) (range_with_len 0 cap)) ++ drop (place cap) m))) heads
    ∙ ap (λ w. take 130 m ++ (w ++ (flat_map record_of (map (λ i. record_at m (place i)) (range_with_len 0 cap)) ++ drop (place cap) m))) size
    ∙ ap (λ w. take 130 m ++ (take 2 (drop 130 m) ++ (w ++ drop (place cap) m))) rows)
