-- Which bytes a part of the table rests on. Assumes nothing.
use Rattle.std.proofs.Common.{◌≡◌, ℕ, zero, suc, ◌+◌, ◌-◌, ◌*◌, ◌<◌, ◌≤◌, ◌⊎◌, List, map, length, get_or, take, drop, set, sym, refl, ap, ◌∙◌, subst, inl, inr, ⊎_elim, arith}
use Rattle.std.specs.List.{range_with_len}
use Rattle.std.proofs.lemmas.Bool.{cases_eq, cases_lt}
use Rattle.std.proofs.lemmas.List.{length-set, length-drop, length-take-le, get_or-set_same, get_or-set_other, get_or-take, get_or-drop, get_or_default, get_or_past, same_lists, set_past}
use Rattle.std.proofs.lemmas.List.FromFn.{length-map-range_with_len, get_or-map-range_with_len}
use Rattle.chains.specs.Tables.{Entry, blank, entry, put}
use Rattle.book.specs.Words.{word}
use Rattle.chained.specs.Layout.{place, record_at, table_of}

-- ---- one record
pub length_nonce : (m : List ℕ) (at : ℕ) → at + 32 ≤ length m → length (take 32 (drop at m)) ≡ 32
length_nonce m at h =
    let l : 32 ≤ length (drop at m) = omega (arith, length-drop at m) in
    length-take-le 32 (drop at m) l

pub nonce_get_or : (m : List ℕ) (at k d : ℕ) → at + 32 ≤ length m → k < 32 → get_or (take 32 (drop at m)) k d ≡ get_or m (at + k) 0
nonce_get_or m at k d h b = get_or-take 32 (drop at m) k d b ∙ get_or-drop at m k d ∙ get_or_default m (at + k) d 0 (omega arith)

pub nonce_kept : (m n : List ℕ) (at : ℕ) → at + 32 ≤ length m → at + 32 ≤ length n → ((k : ℕ) → at ≤ k → k < at + 32 → get_or n k 0 ≡ get_or m k 0) → take 32 (drop at n) ≡ take 32 (drop at m)
nonce_kept m n at hm hn same =
    let ln = length_nonce n at hn in
    same_lists _ _ (ln ∙ sym (length_nonce m at hm)) (λ k d h.
    let b : k < 32 = omega arith in
    nonce_get_or n at k d hn b ∙ same (at + k) (omega arith) (omega arith) ∙ sym (nonce_get_or m at k d hm b))

pub word_kept : (m n : List ℕ) (at : ℕ) → get_or n at 0 ≡ get_or m at 0 → get_or n (at + 1) 0 ≡ get_or m (at + 1) 0 → word n at ≡ word m at
word_kept m n at a b = cc

-- a record is its 36 bytes
pub record_kept : (m n : List ℕ) (at : ℕ) → at + 36 ≤ length m → at + 36 ≤ length n → ((k : ℕ) → at ≤ k → k < at + 36 → get_or n k 0 ≡ get_or m k 0) → record_at n at ≡ record_at m at
record_kept m n at hm hn same =
    let a = word_kept m n at (same at (omega arith) (omega arith)) (same (at + 1) (omega arith) (omega arith)) in
    let b = word_kept m n (at + 2) (same (at + 2) (omega arith) (omega arith)) (same (at + 2 + 1) (omega arith) (omega arith)) in
    let c = nonce_kept m n (at + 4) (omega arith) (omega arith) (λ k lo hi. same k (omega arith) (omega arith)) in
    ap (λ x. record { next = x; epoch = word n (at + 2); nonce = take 32 (drop (at + 4) n) }) a
    ∙ ap (λ x. record { next = word m at; epoch = x; nonce = take 32 (drop (at + 4) n) }) b
    ∙ ap (λ x. record { next = word m at; epoch = word m (at + 2); nonce = x }) c

-- ---- the parts of the table
pub heads_of : List ℕ → List ℕ
heads_of m = map (λ c. word m (2 * c)) (range_with_len 0 65)

pub records_of : ℕ → List ℕ → List Entry
records_of cap m = map (λ i. record_at m (place i)) (range_with_len 0 cap)

pub table_is : (cap : ℕ) (m : List ℕ) → table_of cap m ≡ record { heads = heads_of m; size = word m 130; entries = records_of cap m }
unfolding table_of heads_of records_of
table_is cap m = refl

pub length_heads : (m : List ℕ) → length (heads_of m) ≡ 65
unfolding heads_of
length_heads m = length-map-range_with_len (λ c. word m (2 * c)) 0 65

pub length_records : (cap : ℕ) (m : List ℕ) → length (records_of cap m) ≡ cap
unfolding records_of
length_records cap m = length-map-range_with_len (λ i. record_at m (place i)) 0 cap

pub heads_at : (m : List ℕ) (c d : ℕ) → c < 65 → get_or (heads_of m) c d ≡ word m (2 * c)
unfolding heads_of
heads_at m c d h = get_or-map-range_with_len (λ c. word m (2 * c)) 0 65 c c d h (omega arith)

pub records_at : (cap : ℕ) (m : List ℕ) (i : ℕ) (d : Entry) → i < cap → get_or (records_of cap m) i d ≡ record_at m (place i)
unfolding records_of
records_at cap m i d h = get_or-map-range_with_len (λ i. record_at m (place i)) 0 cap i i d h (omega arith)

pub heads_kept : (m n : List ℕ) → ((k : ℕ) → k < 130 → get_or n k 0 ≡ get_or m k 0) → heads_of n ≡ heads_of m
heads_kept m n same = same_lists _ _ (length_heads n ∙ sym (length_heads m)) (λ c d h.
    let b : c < 65 = omega (arith, length_heads n) in
    heads_at n c d b ∙ word_kept m n (2 * c) (same (2 * c) (omega arith)) (same (2 * c + 1) (omega arith)) ∙ sym (heads_at m c d b))

pub heads_set : (m n : List ℕ) (c x : ℕ) → c < 65 → word n (2 * c) ≡ x → ((k : ℕ) → (k < 2 * c) ⊎ (2 * c + 2 ≤ k) → get_or n k 0 ≡ get_or m k 0) → heads_of n ≡ set (heads_of m) c x
heads_set m n c x lt there same = same_lists _ _ (length_heads n ∙ sym (length-set (heads_of m) c x ∙ length_heads m)) (λ j d h.
    let b : j < 65 = omega (arith, length_heads n) in
    ⊎_elim
    (λ (q : j ≡ c). subst (λ y. get_or (heads_of n) y d ≡ get_or (set (heads_of m) c x) y d) (sym q)
    (heads_at n c d lt ∙ there ∙ sym (get_or-set_same (heads_of m) c x d (omega (arith, length_heads m)))))
    (λ (ne : j ≡ c → ⊥). heads_at n j d b ∙ word_kept m n (2 * j) (same (2 * j) (apart j c ne)) (same (2 * j + 1) (apart_next j c ne))
    ∙ sym (get_or-set_other (heads_of m) c j x d ne ∙ heads_at m j d b))
    (cases_eq j c))
  where
    apart : (j c : ℕ) → (j ≡ c → ⊥) → (2 * j < 2 * c) ⊎ (2 * c + 2 ≤ 2 * j)
    apart j c ne = ⊎_elim (λ (l : j < c). inl (omega arith)) (λ (l : c ≤ j). inr (omega arith)) (cases_lt j c)

    apart_next : (j c : ℕ) → (j ≡ c → ⊥) → (2 * j + 1 < 2 * c) ⊎ (2 * c + 2 ≤ 2 * j + 1)
    apart_next j c ne = ⊎_elim (λ (l : j < c). inl (omega arith)) (λ (l : c ≤ j). inr (omega arith)) (cases_lt j c)

pub records_kept : (cap : ℕ) (m n : List ℕ) → place cap ≤ length m → length n ≡ length m → ((k : ℕ) → 132 ≤ k → k < place cap → get_or n k 0 ≡ get_or m k 0) → records_of cap n ≡ records_of cap m
records_kept cap m n fits long same = same_lists _ _ (length_records cap n ∙ sym (length_records cap m)) (λ i d h.
    let b : i < cap = omega (arith, length_records cap n) in
    records_at cap n i d b ∙ record_kept m n (place i) (omega arith) (omega arith) (λ k lo hi. same k (omega arith) (omega arith)) ∙ sym (records_at cap m i d b))

pub records_set : (cap : ℕ) (m n : List ℕ) (i : ℕ) (e : Entry) → i < cap → place cap ≤ length m → length n ≡ length m → record_at n (place i) ≡ e
    → ((k : ℕ) → (k < place i) ⊎ (place i + 36 ≤ k) → get_or n k 0 ≡ get_or m k 0) → records_of cap n ≡ set (records_of cap m) i e
records_set cap m n i e lt fits long there same = same_lists _ _ (length_records cap n ∙ sym (length-set (records_of cap m) i e ∙ length_records cap m)) (λ j d h.
    let b : j < cap = omega (arith, length_records cap n) in
    ⊎_elim
    (λ (q : j ≡ i). subst (λ y. get_or (records_of cap n) y d ≡ get_or (set (records_of cap m) i e) y d) (sym q)
    (records_at cap n i d lt ∙ there ∙ sym (get_or-set_same (records_of cap m) i e d (omega (arith, length_records cap m)))))
    (λ (ne : j ≡ i → ⊥). records_at cap n j d b
    ∙ record_kept m n (place j) (omega arith) (omega arith) (λ k lo hi. same k (apart j i k ne lo hi))
    ∙ sym (get_or-set_other (records_of cap m) i j e d ne ∙ records_at cap m j d b))
    (cases_eq j i))
  where
    apart : (j i k : ℕ) → (j ≡ i → ⊥) → place j ≤ k → k < place j + 36 → (k < place i) ⊎ (place i + 36 ≤ k)
    apart j i k ne lo hi = ⊎_elim (λ (l : j < i). inl (omega arith)) (λ (l : i ≤ j). inr (omega arith)) (cases_lt j i)

pub later_kept : (cap : ℕ) (m n : List ℕ) → length n ≡ length m → ((k : ℕ) → place cap ≤ k → get_or n k 0 ≡ get_or m k 0) → drop (place cap) n ≡ drop (place cap) m
later_kept cap m n long same = same_lists _ _ (length-drop (place cap) n ∙ ap (λ x. x - place cap) long ∙ sym (length-drop (place cap) m)) (λ k d h.
    let b : place cap + k < length n = omega (arith, length-drop (place cap) n) in
    get_or-drop (place cap) n k d ∙ get_or_default n (place cap + k) d 0 b ∙ same (place cap + k) (omega arith) ∙ get_or_default m (place cap + k) 0 d (omega arith) ∙ sym (get_or-drop (place cap) m k d))

-- ---- records by their numbers
pub put_number : (es : List Entry) (n : ℕ) (e : Entry) → 1 ≤ n → put es n e ≡ set es (n - 1) e
put_number es zero e lo = absurd (omega arith)
put_number es (suc k) e lo = let q : k ≡ suc k - 1 = omega arith in ap (λ x. set es x e) q

pub entry_number : (es : List Entry) (n : ℕ) → 1 ≤ n → entry es n ≡ get_or es (n - 1) blank
entry_number es zero lo = absurd (omega arith)
entry_number es (suc k) lo = let q : k ≡ suc k - 1 = omega arith in ap (λ x. get_or es x blank) q

pub put_none : (es : List Entry) (n : ℕ) (e : Entry) → (1 ≤ n → n ≤ length es → ⊥) → put es n e ≡ es
put_none es zero e none = refl
put_none es (suc k) e none = ⊎_elim (λ (l : k < length es). absurd (none (omega arith) (omega arith))) (λ (l : length es ≤ k). set_past es k e l) (cases_lt k (length es))

pub entry_none : (es : List Entry) (n : ℕ) → (1 ≤ n → n ≤ length es → ⊥) → entry es n ≡ blank
entry_none es zero none = refl
entry_none es (suc k) none = ⊎_elim (λ (l : k < length es). absurd (none (omega arith) (omega arith))) (λ (l : length es ≤ k). get_or_past es k blank l) (cases_lt k (length es))
