-- That an image is read back as the pairs that it was made of. Assumes nothing.
use Rattle.std.proofs.Common.{◌≡◌, ℕ, zero, suc, ◌<◌, ◌≤◌, Bool, true, false, Decides, zero-add, ◌+◌, ◌-◌, ◌*◌, ◌/◌, ◌%◌, List, [], ◌∷◌, ◌++◌, map, length, get_or, take, drop, replicate, sym, refl, ap, ◌∙◌, add-zero, arith}
use Rattle.std.specs.Bool.{MatchBool}
use Rattle.std.specs.List.{range_with_len, flat_map, AllByRecursion, AllWithin, HoldsAt, ContainsAt as Has}
use Rattle.std.specs.Simd.{first_chunks}
use Rattle.std.proofs.lemmas.Nat.{div-add-mod'}
use Rattle.std.proofs.lemmas.Bool.{false≢true}
use Rattle.std.proofs.lemmas.List.{length-map, get_or-map, get_or-take, length-take-le, length-drop, append_assoc, drop-drop, drop_at, take_at, get_or-drop}
use Rattle.book.specs.Meaning.{Pair, Shaped}
use Rattle.book.specs.Words.{word}
use Rattle.tape.specs.Layout.{record_of, image, place, pair_at, firsts}
use Rattle.tape.proofs.Frames.{pair_moved}
use Rattle.tape.specs.Laws.{ReadBack, OneImage}

pair_read : (m rest : List ℕ) (at : ℕ) (p : Pair) → drop at m ≡ record_of p ++ rest → Shaped p → pair_at m at ≡ p
pair_read m rest at p is shaped =
    let high : get_or m at 0 ≡ p.0 / 256 = ap (λ i. get_or m i 0) (sym (add-zero at)) ∙ sym (get_or-drop at m 0 0) ∙ ap (λ xs. get_or xs 0 0) is in
    let low : get_or m (at + 1) 0 ≡ p.0 % 256 = sym (get_or-drop at m 1 0) ∙ ap (λ xs. get_or xs 1 0) is in
    let epoch : word m at ≡ p.0 = (λ i. high i * 256 + low i) ∙ div-add-mod' p.0 256 in
    let nonce : take 32 (drop (at + 2) m) ≡ p.1 =
    ap (take 32) (sym (drop-drop 2 at m) ∙ ap (drop 2) is) ∙ take_at p.1 rest 32 shaped in
    (λ i. (epoch i, nonce i))

records_read : (ps : List Pair) (m rest : List ℕ) (i : ℕ) → drop (place i) m ≡ flat_map record_of ps ++ rest → AllByRecursion Shaped ps
    → map (λ j. pair_at m (place j)) (range_with_len i (length ps)) ≡ ps
records_read [] m rest i is all = refl
records_read (p ∷ ps) m rest i is all =
    let tail = flat_map record_of ps ++ rest in
    let split : drop (place i) m ≡ record_of p ++ tail = is ∙ append_assoc (record_of p) (flat_map record_of ps) rest in
    let on : place i + 34 ≡ place (i + 1) = omega arith in
    let long : length (record_of p) ≡ 34 = ap (λ n. suc (suc n)) all.0 in
    let next : drop (place (i + 1)) m ≡ tail =
    ap (λ k. drop k m) (sym on) ∙ sym (drop-drop 34 (place i) m) ∙ ap (drop 34) split ∙ drop_at (record_of p) tail 34 long in
    (λ k. pair_read m tail (place i) p split all.0 k ∷ records_read ps m rest (i + 1) next all.1 k)

pub read_back : ReadBack
unfolding image
read_back ps cap rest all =
    let n = length ps in
    let m = image ps cap rest in
    let size : word m 0 ≡ n = div-add-mod' n 256 in
    ap (firsts m) size ∙ records_read ps m (replicate (34 * (cap - n)) 0 ++ rest) 0 refl all

pub one_image : OneImage
one_image m n cap a b pairs rest = a.laid ∙ (λ i. image (pairs i) cap (rest i)) ∙ sym b.laid

-- ---- the records as chunks of 34 bytes
chunks_read : (k : ℕ) (xs m : List ℕ) (i : ℕ) → 34 * k ≤ length xs → place (i + k) ≤ length m → ((j : ℕ) → j < 34 * k → get_or xs j 0 ≡ get_or m (place i + j) 0)
    → map (λ r. pair_at r 0) (first_chunks 34 k xs) ≡ map (λ j. pair_at m (place j)) (range_with_len i k)
chunks_read zero xs m i long inside same = refl
chunks_read (suc k) xs m i long inside same =
    let l : 34 ≤ length (take 34 xs) = omega (arith, length-take-le 34 xs (omega arith)) in
    let first : pair_at (take 34 xs) 0 ≡ pair_at m (place i) =
    pair_moved m (take 34 xs) (place i) 0 (omega arith) (omega arith)
    (λ j h. ap (λ x. get_or (take 34 xs) x 0) (zero-add j) ∙ get_or-take 34 xs j 0 h ∙ same j (omega arith)) in
    let rest = chunks_read k (drop 34 xs) m (i + 1) (omega (arith, length-drop 34 xs)) (omega arith)
    (λ j h. get_or-drop 34 xs j 0 ∙ same (34 + j) (omega arith) ∙ ap (λ x. get_or m x 0) (omega arith)) in
    (λ z. first z ∷ rest z)

pub records_are_chunks : (m xs : List ℕ) (n k : ℕ) → place n ≤ length m → xs ≡ take (34 * n) (drop 2 m) → k ≡ n → map (λ r. pair_at r 0) (first_chunks 34 k xs) ≡ firsts m n
records_are_chunks m xs n k inside is same =
    let long : length (take (34 * n) (drop 2 m)) ≡ 34 * n = length-take-le (34 * n) (drop 2 m) (omega (arith, length-drop 2 m)) in
    (λ z. map (λ r. pair_at r 0) (first_chunks 34 (same z) (is z)))
    ∙ chunks_read n (take (34 * n) (drop 2 m)) m 0 (omega arith) (omega arith)
    (λ j h. get_or-take (34 * n) (drop 2 m) j 0 h ∙ get_or-drop 2 m j 0)

-- some record is the pair, or none is
pub any_has : (all : List (List ℕ)) (ps : List Pair) (p : Pair) (r : Bool) → map (λ s. pair_at s 0) all ≡ ps
    → MatchBool r ((k : ℕ) × (k < length all) × HoldsAt (λ s. pair_at s 0 ≡ p) all k) (AllWithin (λ s. pair_at s 0 ≡ p → ⊥) all 0 (length all)) → Decides r (Has ps p)
any_has all ps p true is some =
    let long : length ps ≡ length all = ap length (sym is) ∙ length-map all (λ s. pair_at s 0) in (
      λ _. (some.0, omega arith, λ d. ap (λ qs. get_or qs some.0 d) (sym is) ∙ get_or-map (λ s. pair_at s 0) all some.0 [] d some.1 ∙ some.2 []),
      λ _. refl,
    )
any_has all ps p false is none =
    let long : length ps ≡ length all = ap length (sym is) ∙ length-map all (λ s. pair_at s 0) in (
      λ e. absurd (false≢true e),
      λ h. absurd (none h.0 [] (omega arith) (omega (arith, h.1)) (sym (get_or-map (λ s. pair_at s 0) all h.0 [] p (omega (arith, h.1))) ∙ ap (λ qs. get_or qs h.0 p) is ∙ h.2 p)),
    )
