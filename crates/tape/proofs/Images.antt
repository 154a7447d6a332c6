-- That memory is the image of its pairs, and what follows from that. Assumes nothing.
use Rattle.std.proofs.Common.{◌≡◌, ℕ, zero, suc, ◌+◌, ◌-◌, ◌*◌, ◌/◌, ◌%◌, ◌<◌, ◌≤◌, List, [], ◌∷◌, ◌++◌, length, get_or, take, drop, replicate, sym, refl, ap, ◌∙◌, add-one, arith}
use Rattle.std.specs.List.{flat_map, AllByRecursion}
use Rattle.std.proofs.lemmas.Nat.{div-mul-add, mod-mul-add}
use Rattle.std.proofs.lemmas.List.{append_assoc, same_lists, drop_more, drop-drop, drop_at, take-append-drop, length-append, length-take-le, length-drop, length-replicate, get_or-take, get_or-drop, get_or_default, get_or_append_left, get_or-replicate, flat_map_more}
use Rattle.std.proofs.lemmas.List.FromFn.{map-range_with_len_more}
use Rattle.book.specs.Meaning.{Pair, Shaped}
use Rattle.book.specs.Words.{two, word, Bytes}
use Rattle.tape.specs.Layout.{record_of, image, place, pair_at, firsts, pairs_of, later, Fitting, Laid}
use Rattle.tape.specs.Facts.{size_is, pairs_shaped}

-- the places behind the last record are zero
abbrev pub Blank : List ℕ → ℕ → Type 0
Blank m cap = (k : ℕ) → place (word m 0) ≤ k → k < place cap → get_or m k 0 ≡ 0

-- ---- from the bytes to the image
two_at : (m : List ℕ) (at : ℕ) → at + 1 < length m → Bytes m → drop at m ≡ two (word m at) ++ drop (at + 2) m
two_at m at h b =
    let high : word m at / 256 ≡ get_or m at 0 = div-mul-add (get_or m at 0) 256 (get_or m (at + 1) 0) (b (at + 1)) in
    let low : word m at % 256 ≡ get_or m (at + 1) 0 = mod-mul-add (get_or m at 0) 256 (get_or m (at + 1) 0) (b (at + 1)) in
    let first = drop_more m at 0 (omega arith) in
    let second = drop_more m (at + 1) 0 h in
    let on : at + 1 + 1 ≡ at + 2 = omega arith in
    first ∙ ap (λ xs. get_or m at 0 ∷ xs) (second ∙ ap (λ i. get_or m (at + 1) 0 ∷ drop i m) on)
    ∙ (λ i. sym high i ∷ sym low i ∷ drop (at + 2) m)

record_at : (m : List ℕ) (at : ℕ) → at + 34 ≤ length m → Bytes m → drop at m ≡ record_of (pair_at m at) ++ drop (at + 34) m
record_at m at h b =
    let on : at + 2 + 32 ≡ at + 34 = omega arith in
    let nonce : drop (at + 2) m ≡ take 32 (drop (at + 2) m) ++ drop (at + 34) m =
    sym (take-append-drop 32 (drop (at + 2) m)) ∙ ap (λ xs. take 32 (drop (at + 2) m) ++ xs) (drop-drop 32 (at + 2) m ∙ ap (λ i. drop i m) on) in
    two_at m at (omega arith) b ∙ ap (λ xs. two (word m at) ++ xs) nonce

records_are : (m : List ℕ) (n : ℕ) → place n ≤ length m → Bytes m → drop 2 m ≡ flat_map record_of (firsts m n) ++ drop (place n) m
records_are m zero h b = refl
records_are m (suc n) h b =
    let p = pair_at m (place n) in
    let next : firsts m (suc n) ≡ firsts m n ++ p ∷ [] = ap (firsts m) (sym (add-one n)) ∙ map-range_with_len_more (λ i. pair_at m (place i)) 0 n n (omega arith) in
    let on : place n + 34 ≡ place (suc n) = omega arith in
    records_are m n (omega arith) b
    ∙ ap (λ xs. flat_map record_of (firsts m n) ++ xs) (record_at m (place n) (omega arith) b ∙ ap (λ i. record_of p ++ drop i m) on)
    ∙ sym (append_assoc (flat_map record_of (firsts m n)) (record_of p) (drop (place (suc n)) m))
    ∙ ap (λ xs. xs ++ drop (place (suc n)) m) (flat_map_more record_of [] (firsts m n) p ∙ ap (flat_map record_of) (sym next))

zeros_are : (m : List ℕ) (n cap : ℕ) → n ≤ cap → place cap ≤ length m → ((k : ℕ) → place n ≤ k → k < place cap → get_or m k 0 ≡ 0)
    → drop (place n) m ≡ replicate (34 * (cap - n)) 0 ++ later m cap
zeros_are m n cap le inside blank =
    let k = 34 * (cap - n) in
    let on : place n + k ≡ place cap = omega arith in
    let long : length (take k (drop (place n) m)) ≡ k = length-take-le k (drop (place n) m) (omega (arith, length-drop (place n) m)) in
    let zeros : take k (drop (place n) m) ≡ replicate k 0 =
    same_lists _ _ (long ∙ sym (length-replicate k 0)) (λ i d h.
    let lt : i < k = omega arith in
    get_or-take k (drop (place n) m) i d lt ∙ get_or-drop (place n) m i d ∙ get_or_default m (place n + i) d 0 (omega arith)
    ∙ blank (place n + i) (omega arith) (omega arith) ∙ sym (get_or-replicate k i 0 d lt)) in
    sym (take-append-drop k (drop (place n) m))
    ∙ ap (λ xs. xs ++ drop k (drop (place n) m)) zeros
    ∙ ap (λ xs. replicate k 0 ++ xs) (drop-drop k (place n) m ∙ ap (λ i. drop i m) on)

pub laid_from_blank : (m : List ℕ) (cap : ℕ) → Fitting m cap → word m 0 ≤ cap → Bytes m → Blank m cap → Laid m cap
unfolding image
laid_from_blank m cap fitting within b blank =
    let inside = fitting.2 in
    let n = word m 0 in
    two_at m 0 (omega arith) b
    ∙ ap (λ xs. two n ++ xs) (records_are m n (omega arith) b ∙ ap (λ xs. flat_map record_of (pairs_of m) ++ xs) (zeros_are m n cap within inside blank))
    ∙ ap (λ s. two s ++ (flat_map record_of (pairs_of m) ++ (replicate (34 * (cap - s)) 0 ++ later m cap))) (sym (size_is m))

-- ---- from the image to the bytes
length_records : (ps : List Pair) → AllByRecursion Shaped ps → length (flat_map record_of ps) ≡ 34 * length ps
length_records [] all = refl
length_records (p ∷ ps) all =
    let rest = length_records ps all.1 in
    let nonce = all.0 in
    omega (arith, length-append (record_of p) (flat_map record_of ps))

pub blank_from_laid : (m : List ℕ) (cap : ℕ) → Fitting m cap → word m 0 ≤ cap → Laid m cap → Blank m cap
unfolding image
blank_from_laid m cap fitting within laid k lo hi =
    let ps = pairs_of m in
    let n = word m 0 in
    let zeros : List ℕ = replicate (34 * (cap - length ps)) 0 in
    let long : length (two (length ps) ++ flat_map record_of ps) ≡ place n =
    omega (arith, length-append (two (length ps)) (flat_map record_of ps), length_records ps (pairs_shaped m cap fitting within), size_is m) in
    let cut : drop (place n) m ≡ zeros ++ later m cap =
    ap (drop (place n)) (laid ∙ sym (append_assoc (two (length ps)) (flat_map record_of ps) (zeros ++ later m cap)))
    ∙ drop_at (two (length ps) ++ flat_map record_of ps) (zeros ++ later m cap) (place n) long in
    let i = k - place n in
    let at : place n + i ≡ k = omega arith in
    let below : i < 34 * (cap - length ps) = omega (arith, size_is m) in
    ap (λ j. get_or m j 0) (sym at) ∙ sym (get_or-drop (place n) m i 0) ∙ ap (λ xs. get_or xs i 0) cut
    ∙ get_or_append_left zeros (later m cap) 0 i (omega (arith, length-replicate {A = ℕ} (34 * (cap - length ps)) 0))
    ∙ get_or-replicate (34 * (cap - length ps)) i 0 0 below

-- ---- the later bytes
pub later_stays : (m n : List ℕ) (cap : ℕ) → length n ≡ length m → ((k : ℕ) → place cap ≤ k → get_or n k 0 ≡ get_or m k 0) → later n cap ≡ later m cap
later_stays m n cap l same =
    same_lists _ _ (omega (arith, length-drop (place cap) n, length-drop (place cap) m)) (λ i d h.
    let inside : place cap + i < length n = omega (arith, length-drop (place cap) n) in
    get_or-drop (place cap) n i d ∙ get_or_default n (place cap + i) d 0 inside
    ∙ same (place cap + i) (omega arith)
    ∙ get_or_default m (place cap + i) 0 d (omega arith) ∙ sym (get_or-drop (place cap) m i d))
