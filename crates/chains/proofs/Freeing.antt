-- A table after a record was taken out of its chain and put at the free chain's front. Assumes nothing.
use Rattle.std.proofs.Common.{◌≡◌, ℕ, ◌+◌, ◌<◌, ◌≤◌, ◌⊎◌, List, [], ◌∷◌, ◌++◌, map, length, replicate, sym, refl, ap, ◌∙◌, subst, inl, inr, ⊎_elim, arith}
use Rattle.std.specs.List.{AllByRecursion}
use Rattle.std.proofs.lemmas.Bool.{cases_eq, eq-eqb, ne_eqb, cond-true, cond-false}
use Rattle.std.proofs.lemmas.List.{length-set, length-append, length-replicate, get_or-set_same, get_or-set_other, append_assoc, map-append}
use Rattle.std.proofs.ByRecursion.{All-append, All-weaker}
use Rattle.book.specs.Meaning.{Pair, Apart}
use Rattle.chains.specs.Tables.{Entry, Table, entry, put, at, head, pair_of, chain_of, with_head, with_next, bridged, freed}
use Rattle.chains.proofs.Links.{entry_put_same, entry_put_other, length_put, all_left, all_right, Not, Linked, linked_frame, linked_from, fresh, fresh_before, linked_bridge}
use Rattle.chains.proofs.Joins.{split, all_joined, map_same, apart_remove, all_pairs, all_both}
use Rattle.chains.proofs.Fits.{all_of, pair_at, Fits, moved, moved_same, moved_free, moved_other, moved_below, moved_upto, entry_shaped}

-- a record's pair does not change when its next does
pub pair_relinked : (es : List Entry) (b v j : ℕ) → 1 ≤ b → b ≤ length es → pair_of (entry (put es b (record { next = v; epoch = (entry es b).epoch; nonce = (entry es b).nonce })) j) ≡ pair_of (entry es j)
pair_relinked es b v j lo hi =
    let e : Entry = record { next = v; epoch = (entry es b).epoch; nonce = (entry es b).nonce } in
    ⊎_elim
    (λ (q : j ≡ b). subst (λ x. pair_of (entry (put es b e) x) ≡ pair_of (entry es x)) (sym q) (ap pair_of (entry_put_same es b e lo hi)))
    (λ (ne : j ≡ b → ⊥). ap pair_of (entry_put_other es b j e ne))
    (cases_eq j b)

-- the record before the rest of a chain: none, or the last of those passed
abbrev pub Before : List ℕ → ℕ → Type 0
Before pre b = ((pre ≡ []) × (b ≡ 0)) ⊎ ((xs : List ℕ) × (pre ≡ xs ++ b ∷ []))

-- a record of a chain is in no other
module _ (t : Table) (ls : ℕ → List ℕ) (c : ℕ) (fits : Fits t ls) (below : c < 64) (xs : List ℕ) (x : ℕ) (ys : List ℕ) (is : ls c ≡ xs ++ x ∷ ys) where
  pub own_chain : chain_of (at t x).nonce ≡ c
  own_chain = (all_right (λ k. chain_of (at t k).nonce ≡ c) xs (x ∷ ys) (subst (AllByRecursion (λ k. chain_of (at t k).nonce ≡ c)) is (fits.placed c below))).0

  pub not_elsewhere : (d : ℕ) → d < 64 → (d ≡ c → ⊥) → Not x (ls d)
  not_elsewhere d lt ne = All-weaker (λ k. chain_of (at t k).nonce ≡ d) (λ j. j ≡ x → ⊥)
      (λ j p q. ne (sym p ∙ ap (λ y. chain_of (at t y).nonce) q ∙ own_chain)) (ls d) (fits.placed d lt)

  pub not_free : Not x (ls 64)
  not_free = (all_right (λ k. Not k (ls 64)) xs (x ∷ ys) (subst (AllByRecursion (λ k. Not k (ls 64))) is (fits.unfree c below))).0

-- a record is bridged
pub record Bridge (t : Table) (ls : ℕ → List ℕ) (c : ℕ) (xs : List ℕ) (u : Table) : Type 0 where
  pub wide : length u.heads ≡ 65
  pub long : length u.entries ≡ length t.entries
  pub size : u.size ≡ t.size
  pub same : (j : ℕ) → pair_at u j ≡ pair_at t j
  pub heads : (d : ℕ) → (d ≡ c → ⊥) → head u d ≡ head t d
  pub here : Linked u.entries (head u c) xs
  pub there : (d : ℕ) → d ≤ 64 → (d ≡ c → ⊥) → Linked u.entries (head t d) (ls d)

pub bridge : (t : Table) (ls : ℕ → List ℕ) (c : ℕ) (pre : List ℕ) (b k : ℕ) (ks : List ℕ)
    → Fits t ls → c < 64 → ls c ≡ pre ++ k ∷ ks → Before pre b → Bridge t ls c (pre ++ ks) (bridged t c b (at t k).next)
unfolding bridged
bridge t ls c pre b k ks fits below is (inl none) =
    let u = with_head t c (at t k).next in
    let e : bridged t c b (at t k).next ≡ u = ways b none.1 in
    let l : Linked t.entries (head t c) (k ∷ ks) = subst (Linked t.entries (head t c)) (is ∙ ap (λ w. w ++ k ∷ ks) none.0) (fits.linked c (omega arith)) in
    let h : head u c ≡ (at t k).next = get_or-set_same t.heads c (at t k).next 0 (omega (arith, fits.wide)) in
    let r : Bridge t ls c (pre ++ ks) u = record {
      wide = length-set t.heads c (at t k).next ∙ fits.wide;
      long = refl;
      size = refl;
      same = λ j. refl;
      heads = λ d ne. get_or-set_other t.heads c d (at t k).next 0 ne;
      here = subst (λ w. Linked t.entries (head u c) (w ++ ks)) (sym none.0) (subst (λ x. Linked t.entries x ks) (sym h) l.3);
      there = λ d le ne. fits.linked d le;
    } in
    subst (Bridge t ls c (pre ++ ks)) (sym e) r
  where
    ways : (b : ℕ) → b ≡ 0 → bridged t c b (at t k).next ≡ with_head t c (at t k).next
    ways b z = cond-true _ _ _ (eq-eqb b 0 z)
bridge t ls c pre b k ks fits below is (inr (xs, last)) =
    let es = t.entries in
    let e : Entry = record { next = (at t k).next; epoch = (at t b).epoch; nonce = (at t b).nonce } in
    let u = with_next t b (at t k).next in
    let whole : ls c ≡ xs ++ b ∷ k ∷ ks = is ∙ ap (λ w. w ++ k ∷ ks) last ∙ append_assoc xs (b ∷ []) (k ∷ ks) in
    let l : Linked es (head t c) (xs ++ b ∷ k ∷ ks) = subst (Linked es (head t c)) whole (fits.linked c (omega arith)) in
    let lb : Linked es b (b ∷ k ∷ ks) = linked_from es (head t c) xs b (k ∷ ks) l in
    let w : bridged t c b (at t k).next ≡ u = ways b (λ z. omega (arith, lb.1)) in
    let again : pre ++ ks ≡ xs ++ b ∷ ks = ap (λ v. v ++ ks) last ∙ append_assoc xs (b ∷ []) ks in
    let r : Bridge t ls c (pre ++ ks) u = record {
      wide = fits.wide;
      long = length_put es b e;
      size = refl;
      same = λ j. pair_relinked es b (at t k).next j lb.1 lb.2;
      heads = λ d ne. refl;
      here = subst (Linked (put es b e) (head t c)) (sym again) (linked_bridge es (head t c) xs b k ks e refl l);
      there = λ d le ne. linked_frame es (head t d) (ls d) b e (away d le ne whole) (fits.linked d le);
    } in
    subst (Bridge t ls c (pre ++ ks)) (sym w) r
  where
    ways : (b : ℕ) → (b ≡ 0 → ⊥) → bridged t c b (at t k).next ≡ with_next t b (at t k).next
    ways b z = cond-false _ _ _ (ne_eqb b 0 z)

    away : (d : ℕ) → d ≤ 64 → (d ≡ c → ⊥) → ls c ≡ xs ++ b ∷ k ∷ ks → Not b (ls d)
    away d le ne whole =
        ⊎_elim
        (λ (q : d ≡ 64). subst (λ x. Not b (ls x)) (sym q) (not_free t ls c fits below xs b (k ∷ ks) whole))
        (λ (lt : d ≡ 64 → ⊥). not_elsewhere t ls c fits below xs b (k ∷ ks) whole d (omega arith) ne)
        (cases_eq d 64)

-- the record is freed
module _ (t : Table) (ls : ℕ → List ℕ) (c : ℕ) (pre : List ℕ) (b k : ℕ) (ks : List ℕ)
    (fits : Fits t ls) (below : c < 64) (is : ls c ≡ pre ++ k ∷ ks) (before : Before pre b) where
  u : Table
  u = bridged t c b (at t k).next

  e : Entry
  e = record { next = head u 64; epoch = 0; nonce = replicate 32 0 }

  -- the table afterwards
  unfoldable pub freed_table : Table
  freed_table = freed (bridged t c b (at t k).next) k

  -- and its chains
  unfoldable pub freed_lists : ℕ → List ℕ
  freed_lists = moved ls c (pre ++ ks) (k ∷ ls 64)

  br : Bridge t ls c (pre ++ ks) u
  unfolding u
  br = bridge t ls c pre b k ks fits below is before

  l : Linked t.entries (head t c) (pre ++ k ∷ ks)
  l = subst (Linked t.entries (head t c)) is (fits.linked c (omega arith))

  lk : Linked t.entries k (k ∷ ks)
  lk = linked_from t.entries (head t c) pre k ks l

  not_left : Not k (pre ++ ks)
  not_left = All-append (λ j. j ≡ k → ⊥) pre ks (fresh_before t.entries (head t c) pre k ks l) (fresh t.entries k k ks lk)

  there : entry (put u.entries k e) k ≡ e
  there = entry_put_same u.entries k e lk.1 (omega (arith, lk.2, br.long))

  -- the pairs of other records
  pub freed_same : (j : ℕ) → (j ≡ k → ⊥) → pair_at freed_table j ≡ pair_at t j
  unfolding freed_table freed u e
  freed_same j ne = ap pair_of (entry_put_other u.entries k j e ne) ∙ br.same j

  same_all : (xs : List ℕ) → Not k xs → AllByRecursion (λ j. pair_at freed_table j ≡ pair_at t j) xs
  same_all xs n = All-weaker (λ j. j ≡ k → ⊥) (λ j. pair_at freed_table j ≡ pair_at t j) freed_same xs n

  head_free : head freed_table 64 ≡ k
  unfolding freed_table freed u
  head_free = get_or-set_same u.heads 64 k 0 (omega (arith, br.wide))

  head_other : (d : ℕ) → d < 64 → head freed_table d ≡ head u d
  unfolding freed_table freed u
  head_other d lt = get_or-set_other u.heads 64 d k 0 (λ q. omega arith)

  parts : (A : List ℕ) × (B : List ℕ) × ((ms : ℕ → List ℕ) → ((d : ℕ) → 0 ≤ d → d < 0 + 64 → (d ≡ c → ⊥) → ms d ≡ ls d) → all_of ms ≡ A ++ (ms c ++ B))
  parts = split ls 0 64 c (omega arith) (omega arith)

  was : all_of ls ≡ (parts.0 ++ pre) ++ k ∷ (ks ++ parts.1)
  was = parts.2 ls (λ d lo hi ne. refl) ∙ ap (λ w. parts.0 ++ (w ++ parts.1)) is ∙ simp append_assoc

  now_is : all_of freed_lists ≡ (parts.0 ++ pre) ++ (ks ++ parts.1)
  unfolding freed_lists
  now_is = parts.2 freed_lists (λ d lo hi ne. moved_other ls c (pre ++ ks) (k ∷ ls 64) below d hi ne)
      ∙ ap (λ w. parts.0 ++ (w ++ parts.1)) (moved_same ls c (pre ++ ks) (k ∷ ls 64) below) ∙ simp append_assoc

  pub not_one : (d : ℕ) → d < 64 → Not k (freed_lists d)
  unfolding freed_lists
  not_one = moved_below ls c (pre ++ ks) (k ∷ ls 64) below (λ d xs. Not k xs) not_left (not_elsewhere t ls c fits below pre k ks is)

  not_any : Not k (all_of freed_lists)
  not_any = all_joined (λ j. j ≡ k → ⊥) freed_lists 0 64 (λ d lo hi. not_one d hi)

  -- what is left of the pairs
  pub freed_pairs : map (pair_at freed_table) (all_of freed_lists) ≡ map (pair_at t) (all_of freed_lists)
  freed_pairs = map_same (pair_at t) (pair_at freed_table) (all_of freed_lists) (same_all (all_of freed_lists) not_any)

  apart : Apart (map (pair_at t) (all_of freed_lists))
  apart = subst Apart (sym (ap (map (pair_at t)) now_is ∙ map-append (pair_at t) (parts.0 ++ pre) (ks ++ parts.1)))
      (apart_remove (map (pair_at t) (parts.0 ++ pre)) (map (pair_at t) (ks ++ parts.1)) (pair_at t k)
      (subst Apart (ap (map (pair_at t)) was ∙ map-append (pair_at t) (parts.0 ++ pre) (k ∷ (ks ++ parts.1))) fits.apart))

  -- what was placed is still
  placed_all : (d : ℕ) (xs : List ℕ) → Not k xs → AllByRecursion (λ j. chain_of (at t j).nonce ≡ d) xs → AllByRecursion (λ j. chain_of (at freed_table j).nonce ≡ d) xs
  placed_all d xs n a = all_pairs (λ p. chain_of p.1 ≡ d) (pair_at t) (pair_at freed_table) xs (same_all xs n) a

  unfree_all : (xs : List ℕ) → Not k xs → AllByRecursion (λ j. Not j (ls 64)) xs → AllByRecursion (λ j. Not j (k ∷ ls 64)) xs
  unfree_all xs n a = all_both (λ j. j ≡ k → ⊥) (λ j. Not j (ls 64)) (λ j. Not j (k ∷ ls 64)) xs (λ j m f. (λ q. m (sym q), f)) n a

  kept_c : (P : ℕ → Type 0) → AllByRecursion P (ls c) → AllByRecursion P (pre ++ ks)
  kept_c P a =
      let w = subst (AllByRecursion P) is a in
      All-append P pre ks (all_left P pre (k ∷ ks) w) (all_right P pre (k ∷ ks) w).1

  links : (d : ℕ) → d ≤ 64 → Linked (put u.entries k e) (head freed_table d) (freed_lists d)
  unfolding freed_lists e u
  links = moved_upto ls c (pre ++ ks) (k ∷ ls 64) below (λ d xs. Linked (put u.entries k e) (head freed_table d) xs)
      (subst (λ h. Linked (put u.entries k e) h (pre ++ ks)) (sym (head_other c below)) (linked_frame u.entries (head u c) (pre ++ ks) k e not_left br.here)) (
        head_free,
        lk.1,
        omega (arith, lk.2, br.long, length_put u.entries k e),
        subst (λ (x : Entry). Linked (put u.entries k e) x.next (ls 64)) (sym there)
            (subst (λ h. Linked (put u.entries k e) h (ls 64)) (sym (br.heads 64 (λ q. omega arith)))
            (linked_frame u.entries (head t 64) (ls 64) k e (not_free t ls c fits below pre k ks is) (br.there 64 (omega arith) (λ q. omega arith)))),
      )
      (λ d lt ne. subst (λ h. Linked (put u.entries k e) h (ls d)) (sym (head_other d lt ∙ br.heads d ne))
      (linked_frame u.entries (head t d) (ls d) k e (not_elsewhere t ls c fits below pre k ks is d lt ne) (br.there d (omega arith) ne)))

  shapes : (j : ℕ) → length (entry (put u.entries k e) j).nonce ≡ 32
  unfolding e
  shapes = entry_shaped u.entries k e (length-replicate {A = ℕ} 32 0) (λ j. ap (λ (p : Pair). length p.1) (br.same j) ∙ fits.shaped j)

  free_length : length (freed_lists 64) ≡ length (k ∷ ls 64)
  unfolding freed_lists
  free_length = ap length (moved_free ls c (pre ++ ks) (k ∷ ls 64) below)

  places : (d : ℕ) → d < 64 → AllByRecursion (λ j. chain_of (at freed_table j).nonce ≡ d) (freed_lists d)
  unfolding freed_lists
  places = moved_below ls c (pre ++ ks) (k ∷ ls 64) below (λ d xs. AllByRecursion (λ j. chain_of (at freed_table j).nonce ≡ d) xs)
      (placed_all c (pre ++ ks) not_left (kept_c (λ j. chain_of (at t j).nonce ≡ c) (fits.placed c below)))
      (λ d lt ne. placed_all d (ls d) (not_elsewhere t ls c fits below pre k ks is d lt ne) (fits.placed d lt))

  unfrees : (d : ℕ) → d < 64 → AllByRecursion (λ j. Not j (freed_lists 64)) (freed_lists d)
  unfolding freed_lists
  unfrees d lt = subst (λ g. AllByRecursion (λ j. Not j g) (freed_lists d)) (sym (moved_free ls c (pre ++ ks) (k ∷ ls 64) below))
      (moved_below ls c (pre ++ ks) (k ∷ ls 64) below (λ d xs. AllByRecursion (λ j. Not j (k ∷ ls 64)) xs)
      (unfree_all (pre ++ ks) not_left (kept_c (λ j. Not j (ls 64)) (fits.unfree c below)))
      (λ d lt ne. unfree_all (ls d) (not_elsewhere t ls c fits below pre k ks is d lt ne) (fits.unfree d lt)) d lt)

  blanks : AllByRecursion (λ j. ((at freed_table j).epoch ≡ 0) × ((at freed_table j).nonce ≡ replicate 32 0)) (freed_lists 64)
  unfolding freed_lists freed_table freed u e
  blanks = subst (AllByRecursion (λ j. ((at freed_table j).epoch ≡ 0) × ((at freed_table j).nonce ≡ replicate 32 0))) (sym (moved_free ls c (pre ++ ks) (k ∷ ls 64) below)) (
    (ap (λ (x : Entry). x.epoch) there, ap (λ (x : Entry). x.nonce) there),
    all_pairs (λ p. (p.0 ≡ 0) × (p.1 ≡ replicate 32 0)) (pair_at t) (pair_at freed_table) (ls 64) (same_all (ls 64) (not_free t ls c fits below pre k ks is)) fits.blank,
  )

  pub freed_long : length freed_table.entries ≡ length t.entries
  unfolding freed_table freed u e
  freed_long = length_put u.entries k e ∙ br.long

  pub freed_fits : Fits freed_table freed_lists
  unfolding freed_table freed u e
  freed_fits =
      let fs = moved_free ls c (pre ++ ks) (k ∷ ls 64) below in
      let count-was = ap length was ∙ length-append (parts.0 ++ pre) (k ∷ (ks ++ parts.1)) in
      let count_is = ap length now_is ∙ length-append (parts.0 ++ pre) (ks ++ parts.1) in
      let free-is : length (freed_lists 64) ≡ length (k ∷ ls 64) = free_length in
      record {
        wide = length-set u.heads 64 k ∙ br.wide;
        shaped = shapes;
        linked = links;
        placed = places;
        unfree = unfrees;
        blank = blanks;
        size = omega (arith, fits.size, br.size, count-was, count_is);
        room = omega (arith, fits.room, count-was, count_is, br.long, length_put u.entries k e, free-is);
        apart = subst Apart (sym freed_pairs) apart;
      }
