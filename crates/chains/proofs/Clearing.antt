-- A cleared table: every chain is empty, and the free chain is 1, 2, … Assumes nothing.
use Rattle.std.proofs.Common.{◌≡◌, ℕ, zero, suc, ◌+◌, ◌<◌, ◌≤◌, cond, eqb, ltb, List, [], ◌∷◌, ◌++◌, map, length, get_or, replicate, sym, refl, ap, ◌∙◌, subst, ⊎_elim, arith}
use Rattle.std.specs.List.{range_with_len, flat_map, AllByRecursion}
use Rattle.std.proofs.lemmas.Bool.{cases_lt, cases_eq, ne_eqb, lt-ltb, le-ltb, cond-true, cond-false}
use Rattle.std.proofs.lemmas.List.{length-append, length-replicate, get_or_append_left, get_or-replicate, get_or_past}
use Rattle.std.proofs.lemmas.List.FromFn.{length-range_with_len, length-map-range_with_len, get_or-map-range_with_len}
use Rattle.book.specs.Meaning.{Apart}
use Rattle.book.proofs.Sets.{apart_none}
use Rattle.chains.specs.Tables.{Entry, blank, entry, at, chain_of, cleared}
use Rattle.chains.proofs.Links.{Not, Linked}
use Rattle.chains.proofs.Fits.{all_of, pair_at, Fits}

-- the record with a number in a cleared table
free_record : ℕ → ℕ → Entry
free_record n k = record { next = cond (ltb k n) (k + 1) 0; epoch = 0; nonce = replicate 32 0 }

free_records : ℕ → List Entry
free_records n = map (free_record n) (range_with_len 1 n)

long : (n : ℕ) → length (free_records n) ≡ n
unfolding free_records
long n = length-map-range_with_len (free_record n) 1 n

free_at : (n k : ℕ) → 1 ≤ k → k ≤ n → entry (free_records n) k ≡ free_record n k
unfolding free_records
free_at n zero lo hi = absurd (omega arith)
free_at n (suc k) lo hi = get_or-map-range_with_len (free_record n) 1 n k (suc k) blank (omega arith) (omega arith)

free_linked : (n a m : ℕ) → 1 ≤ a → a + m ≡ n + 1 → Linked (free_records n) (cond (ltb 0 m) a 0) (range_with_len a m)
unfolding free_record
free_linked n a zero lo end = refl
free_linked n a (suc m) lo end =
    let e = free_at n a lo (omega arith) in
    let next : (entry (free_records n) a).next ≡ cond (ltb 0 m) (a + 1) 0 = ap (λ (x : Entry). x.next) e ∙ ⊎_elim
    (λ (b : a < n). cond-true (ltb a n) (a + 1) 0 (lt-ltb a n b) ∙ sym (cond-true (ltb 0 m) (a + 1) 0 (lt-ltb 0 m (omega arith))))
    (λ (b : n ≤ a). cond-false (ltb a n) (a + 1) 0 (le-ltb a n b) ∙ sym (cond-false (ltb 0 m) (a + 1) 0 (le-ltb 0 m (omega arith))))
    (cases_lt a n) in
    (cond-true (ltb 0 (suc m)) a 0 (lt-ltb 0 (suc m) (omega arith)), lo, omega (arith, long n), subst (λ h. Linked (free_records n) h (range_with_len (a + 1) m)) (sym next) (free_linked n (a + 1) m (omega arith) (omega arith)))

shaped : (n k : ℕ) → length (entry (free_records n) k).nonce ≡ 32
unfolding free_record free_records
shaped n zero = length-replicate {A = ℕ} 32 0
shaped n (suc k) =
    ⊎_elim
    (λ (b : k < n). ap (λ (x : Entry). length x.nonce) (free_at n (suc k) (omega arith) (omega arith)) ∙ length-replicate {A = ℕ} 32 0)
    (λ (b : n ≤ k). ap (λ (x : Entry). length x.nonce) (get_or_past (free_records n) k blank (omega (arith, long n))) ∙ length-replicate {A = ℕ} 32 0)
    (cases_lt k n)

blanks : (n a m : ℕ) → 1 ≤ a → a + m ≡ n + 1 → AllByRecursion (λ k. ((entry (free_records n) k).epoch ≡ 0) × ((entry (free_records n) k).nonce ≡ replicate 32 0)) (range_with_len a m)
unfolding free_record
blanks n a zero lo end = tt
blanks n a (suc m) lo end =
    let e = free_at n a lo (omega arith) in
    ((ap (λ (x : Entry). x.epoch) e, ap (λ (x : Entry). x.nonce) e), blanks n (a + 1) m (omega arith) (omega arith))

-- the chains of a cleared table
unfoldable pub clear_lists : ℕ → ℕ → List ℕ
clear_lists n d = cond (eqb d 64) (range_with_len 1 n) []

pub clear_free : (n : ℕ) → clear_lists n 64 ≡ range_with_len 1 n
unfolding clear_lists
clear_free n = refl

pub clear_empty : (n d : ℕ) → d < 64 → clear_lists n d ≡ []
unfolding clear_lists
clear_empty n d lt = cond-false (eqb d 64) (range_with_len 1 n) [] (ne_eqb d 64 (λ q. omega arith))

pub clear_none : (n a m : ℕ) → a + m ≤ 64 → flat_map (clear_lists n) (range_with_len a m) ≡ []
clear_none n a zero le = refl
clear_none n a (suc m) le = ap (λ w. w ++ flat_map (clear_lists n) (range_with_len (a + 1) m)) (clear_empty n a (omega arith)) ∙ clear_none n (a + 1) m (omega arith)

heads : (c : ℕ) → c < 64 → ◌≡◌ {A = ℕ} (get_or (replicate 64 0 ++ 1 ∷ []) c 0) 0
heads c lt = get_or_append_left (replicate 64 0) (1 ∷ []) 0 c (omega (arith, length-replicate {A = ℕ} 64 0)) ∙ get_or-replicate 64 c 0 0 lt

first : (n : ℕ) → 1 ≤ n → ◌≡◌ {A = ℕ} (cond (ltb 0 n) 1 0) (get_or (replicate 64 0 ++ 1 ∷ []) 64 0)
first n some = cond-true (ltb 0 n) 1 0 (lt-ltb 0 n some)

links : (n c : ℕ) → 1 ≤ n → c ≤ 64 → Linked (free_records n) (get_or (replicate 64 0 ++ 1 ∷ []) c 0) (clear_lists n c)
unfolding clear_lists
links n c some le =
    ⊎_elim
    (λ (q : c ≡ 64). subst (λ x. Linked (free_records n) (get_or (replicate 64 0 ++ 1 ∷ []) x 0) (clear_lists n x)) (sym q)
    (subst (λ h. Linked (free_records n) h (range_with_len 1 n)) (first n some) (free_linked n 1 n (omega arith) (omega arith))))
    (λ (ne : c ≡ 64 → ⊥). subst (Linked (free_records n) (get_or (replicate 64 0 ++ 1 ∷ []) c 0)) (sym (clear_empty n c (omega arith))) (heads c (omega arith)))
    (cases_eq c 64)

pub clear_fits : (n : ℕ) → 1 ≤ n → Fits (cleared n) (clear_lists n)
unfolding cleared free_record free_records clear_lists
clear_fits n some =
    let nothing : all_of (clear_lists n) ≡ [] = clear_none n 0 64 (omega arith) in
    record {
      wide = length-append {A = ℕ} (replicate 64 0) (1 ∷ []);
      shaped = shaped n;
      linked = λ c le. links n c some le;
      placed = λ c lt. subst (AllByRecursion (λ k. chain_of (at (cleared n) k).nonce ≡ c)) (sym (clear_empty n c lt)) tt;
      unfree = λ c lt. subst (AllByRecursion (λ k. Not k (clear_lists n 64))) (sym (clear_empty n c lt)) tt;
      blank = blanks n 1 n (omega arith) (omega arith);
      size = sym (ap length nothing);
      room = omega (arith, ap length nothing, length-range_with_len 1 n, long n);
      apart = subst (λ w. Apart (map (pair_at (cleared n)) w)) (sym nothing) apart_none;
    }

pub clear_long : (n : ℕ) → length (cleared n).entries ≡ n
unfolding cleared free_record free_records
clear_long n = long n
