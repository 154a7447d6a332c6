-- Records of a tape whose bytes are the same.
use Rattle.std.proofs.Common.{◌≡◌, ℕ, ◌+◌, ◌<◌, ◌≤◌, List, [], length, get_or, take, drop, sym, ◌∙◌, add-zero, add_assoc, arith}
use Rattle.std.specs.List.{ContainsAt as Has}
use Rattle.std.proofs.lemmas.List.{same_lists, length-take-le, length-drop, get_or-take, get_or-drop, get_or_default}
use Rattle.std.proofs.lemmas.List.FromFn.{length-map-range_with_len, get_or-map-range_with_len, fill_by_all}
use Rattle.book.specs.Meaning.{Pair}
use Rattle.book.specs.Words.{word}
use Rattle.tape.specs.Layout.{place, pair_at, firsts}

pub pair_is : (m : List ℕ) (at e : ℕ) (n : List ℕ) → word m at ≡ e → take 32 (drop (at + 2) m) ≡ n → ◌≡◌ {A = Pair} (pair_at m at) (e, n)
pair_is m at e n p q = cc

pub length_nonce : (m : List ℕ) (at : ℕ) → at + 34 ≤ length m → length (take 32 (drop (at + 2) m)) ≡ 32
length_nonce m at h =
    let l : 32 ≤ length (drop (at + 2) m) = omega (arith, length-drop (at + 2) m) in
    length-take-le 32 (drop (at + 2) m) l

-- a record is its 34 bytes
pub pair_kept : (m n : List ℕ) (at : ℕ) → at + 34 ≤ length m → at + 34 ≤ length n → ((k : ℕ) → at ≤ k → k < at + 34 → get_or n k 0 ≡ get_or m k 0) → pair_at n at ≡ pair_at m at
pair_kept m n at hm hn same =
    let w0 = same at (omega arith) (omega arith) in
    let w1 = same (at + 1) (omega arith) (omega arith) in
    let lm = length_nonce m at hm in
    let ln = length_nonce n at hn in
    let nonces : take 32 (drop (at + 2) n) ≡ take 32 (drop (at + 2) m) =
    same_lists _ _ (ln ∙ sym lm) (λ k d h.
    let h32 : k < 32 = omega arith in
    get_or-take 32 (drop (at + 2) n) k d h32 ∙ get_or-drop (at + 2) n k d ∙ get_or_default n (at + 2 + k) d 0 (omega arith)
    ∙ same (at + 2 + k) (omega arith) (omega arith)
    ∙ get_or_default m (at + 2 + k) 0 d (omega arith) ∙ sym (get_or-drop (at + 2) m k d) ∙ sym (get_or-take 32 (drop (at + 2) m) k d h32)) in
    cc

-- the same 34 bytes elsewhere
pub pair_moved : (m n : List ℕ) (at to : ℕ) → at + 34 ≤ length m → to + 34 ≤ length n → ((j : ℕ) → j < 34 → get_or n (to + j) 0 ≡ get_or m (at + j) 0) → pair_at n to ≡ pair_at m at
pair_moved m n at to hm hn same =
    let w0 : get_or n to 0 ≡ get_or m at 0 = simp add-zero at (same 0 (omega arith)) in
    let w1 = same 1 (omega arith) in
    let nonces : take 32 (drop (to + 2) n) ≡ take 32 (drop (at + 2) m) =
    same_lists _ _ (length_nonce n to hn ∙ sym (length_nonce m at hm)) (λ k d h.
    let h32 : k < 32 = omega (arith, length_nonce n to hn) in
    let s : get_or n (to + 2 + k) 0 ≡ get_or m (at + 2 + k) 0 = rw (add_assoc to 2 k, add_assoc at 2 k) (same (2 + k) (omega arith)) in
    get_or-take 32 (drop (to + 2) n) k d h32 ∙ get_or-drop (to + 2) n k d ∙ get_or_default n (to + 2 + k) d 0 (omega arith)
    ∙ s
    ∙ get_or_default m (at + 2 + k) 0 d (omega arith) ∙ sym (get_or-drop (at + 2) m k d) ∙ sym (get_or-take 32 (drop (at + 2) m) k d h32)) in
    cc

pub firsts_kept : (m n : List ℕ) (c : ℕ) → place c ≤ length m → length n ≡ length m → ((k : ℕ) → 2 ≤ k → k < place c → get_or n k 0 ≡ get_or m k 0) → firsts n c ≡ firsts m c
firsts_kept m n c h l same =
    fill_by_all (λ i. pair_at m (place i)) (firsts n c) c (0, []) (length-map-range_with_len (λ i. pair_at n (place i)) 0 c)
    (λ i b. get_or-map-range_with_len (λ j. pair_at n (place j)) 0 c i i _ b (omega arith)
    ∙ pair_kept m n (place i) (omega arith) (omega arith) (λ k lo hi. same k (omega arith) (omega arith)))

pub firsts_has : (m : List ℕ) (c i : ℕ) (p : Pair) → i < c → pair_at m (place i) ≡ p → Has (firsts m c) p
firsts_has m c i p h e = (i, omega (arith, length-map-range_with_len (λ j. pair_at m (place j)) 0 c), λ d. get_or-map-range_with_len (λ j. pair_at m (place j)) 0 c i i d h (omega arith) ∙ e)

pub firsts_has_not : (m : List ℕ) (c : ℕ) (p : Pair) → ((i : ℕ) → i < c → pair_at m (place i) ≡ p → ⊥) → Has (firsts m c) p → ⊥
firsts_has_not m c p none h =
    let b : h.0 < c = omega (arith, h.1, length-map-range_with_len (λ j. pair_at m (place j)) 0 c) in
    none h.0 b (sym (get_or-map-range_with_len (λ j. pair_at m (place j)) 0 c h.0 h.0 p b (omega arith)) ∙ h.2 p)
