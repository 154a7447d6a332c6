-- A table after mark: the first free record stands at its chain's front. Assumes nothing.
use Rattle.std.proofs.Common.{◌≡◌, ℕ, ◌+◌, ◌<◌, ◌≤◌, List, ◌∷◌, ◌++◌, map, length, set, replicate, sym, refl, ap, ◌∙◌, subst, arith}
use Rattle.std.specs.List.{ContainsAt as Has, AllByRecursion}
use Rattle.std.proofs.lemmas.List.{length-set, length-append, get_or-set_same, get_or-set_other, map-append}
use Rattle.std.proofs.ByRecursion.{All-weaker}
use Rattle.book.specs.Meaning.{Pair, Apart}
use Rattle.chains.specs.Tables.{Entry, Table, entry, put, at, head, pair_of, chain_of, marked}
use Rattle.chains.proofs.Links.{entry_put_same, length_put, all_left, all_right, Not, Linked, linked_frame, fresh}
use Rattle.chains.proofs.Joins.{split, all_joined, map_same, apart_insert}
use Rattle.chains.proofs.Fits.{all_of, pair_at, Fits, moved, moved_same, moved_free, moved_other, moved_below, moved_upto, all_frame, pairs_frame, entry_shaped, chain_below}

module _ (t : Table) (ls : ℕ → List ℕ) (p : Pair) (k : ℕ) (fs : List ℕ)
    (fits : Fits t ls) (first : ls 64 ≡ k ∷ fs) (nonce : length p.1 ≡ 32) where
  abbrev c : ℕ
  c = chain_of p.1

  e : Entry
  e = record { next = head t (chain_of p.1); epoch = p.0; nonce = p.1 }

  -- the table, with the first free record by its number
  unfoldable pub after : Table
  after = record {
    heads = set (set t.heads 64 (at t k).next) (chain_of p.1) k;
    size = t.size + 1;
    entries = put t.entries k (record { next = head t (chain_of p.1); epoch = p.0; nonce = p.1 });
  }

  link : Linked t.entries (head t 64) (k ∷ fs)
  link = subst (Linked t.entries (head t 64)) first (fits.linked 64 (omega arith))

  pub mark_is : marked t p ≡ after
  unfolding marked after
  mark_is = ap (λ h. record {
    heads = set (set t.heads 64 (at t h).next) (chain_of p.1) h;
    size = t.size + 1;
    entries = put t.entries h (record { next = head t (chain_of p.1); epoch = p.0; nonce = p.1 });
  }) link.0

  below : c < 64
  below = chain_below p.1

  not_used : (d : ℕ) → d < 64 → Not k (ls d)
  not_used d lt = All-weaker (λ j. Not j (ls 64)) (λ j. j ≡ k → ⊥) (λ j n q. (let m : Not j (k ∷ fs) = subst (Not j) first n in m.0 (sym q))) (ls d) (fits.unfree d lt)

  not_free : Not k fs
  not_free = fresh t.entries (head t 64) k fs link

  there : entry (put t.entries k e) k ≡ e
  there = entry_put_same t.entries k e link.1 link.2

  head_here : head after c ≡ k
  unfolding after
  head_here = get_or-set_same (set t.heads 64 (at t k).next) c k 0 (omega (arith, below, length-set t.heads 64 (at t k).next, fits.wide))

  head_free : head after 64 ≡ (at t k).next
  unfolding after
  head_free = get_or-set_other (set t.heads 64 (at t k).next) c 64 k 0 (λ q. omega (arith, below)) ∙ get_or-set_same t.heads 64 (at t k).next 0 (omega (arith, fits.wide))

  head_other : (d : ℕ) → d < 64 → (d ≡ c → ⊥) → head after d ≡ head t d
  unfolding after
  head_other d lt ne = get_or-set_other (set t.heads 64 (at t k).next) c d k 0 ne ∙ get_or-set_other t.heads 64 d (at t k).next 0 (λ q. omega arith)

  -- the chains afterwards
  unfoldable pub lists : ℕ → List ℕ
  lists = moved ls c (k ∷ ls c) fs

  parts : (A : List ℕ) × (B : List ℕ) × ((ms : ℕ → List ℕ) → ((d : ℕ) → 0 ≤ d → d < 0 + 64 → (d ≡ c → ⊥) → ms d ≡ ls d) → all_of ms ≡ A ++ (ms c ++ B))
  parts = split ls 0 64 c (omega arith) (omega (arith, below))

  was : all_of ls ≡ parts.0 ++ (ls c ++ parts.1)
  was = parts.2 ls (λ d lo hi ne. refl)

  is : all_of lists ≡ parts.0 ++ (k ∷ (ls c ++ parts.1))
  unfolding lists
  is = parts.2 lists (λ d lo hi ne. moved_other ls c (k ∷ ls c) fs below d hi ne) ∙ ap (λ w. parts.0 ++ (w ++ parts.1)) (moved_same ls c (k ∷ ls c) fs below)

  not_any : Not k (parts.0 ++ (ls c ++ parts.1))
  not_any = subst (Not k) was (all_joined (λ j. j ≡ k → ⊥) ls 0 64 (λ d lo hi. not_used d hi))

  -- the pairs before and after
  pub front : List Pair
  front = map (pair_at t) parts.0

  pub back : List Pair
  back = map (pair_at t) (ls c ++ parts.1)

  pub pairs_before : map (pair_at t) (all_of ls) ≡ front ++ back
  unfolding front back
  pairs_before = ap (map (pair_at t)) was ∙ map-append (pair_at t) parts.0 (ls c ++ parts.1)

  pub pairs_after : map (pair_at after) (all_of lists) ≡ front ++ p ∷ back
  unfolding after front back e
  pairs_after =
      let f = pair_at after in
      let a : map f parts.0 ≡ front = map_same (pair_at t) f parts.0 (pairs_frame t.entries k e parts.0 (all_left (λ j. j ≡ k → ⊥) parts.0 (ls c ++ parts.1) not_any)) in
      let b : map f (ls c ++ parts.1) ≡ back = map_same (pair_at t) f (ls c ++ parts.1) (pairs_frame t.entries k e (ls c ++ parts.1) (all_right (λ j. j ≡ k → ⊥) parts.0 (ls c ++ parts.1) not_any)) in
      let h : f k ≡ p = ap pair_of there in
      ap (map f) is ∙ map-append f parts.0 (k ∷ (ls c ++ parts.1)) ∙ ap (λ w. w ++ map f (k ∷ (ls c ++ parts.1))) a ∙ ap (λ w. front ++ w) (cc)

  pub mark_fits : (Has (map (pair_at t) (all_of ls)) p → ⊥) → Fits after lists
  unfolding after lists e
  mark_fits new =
      let es' = put t.entries k e in
      let ms = moved ls c (k ∷ ls c) fs in
      let longer : length es' ≡ length t.entries = length_put t.entries k e in
      let count-was = ap length was ∙ length-append parts.0 (ls c ++ parts.1) in
      let count_is = ap length is ∙ length-append parts.0 (k ∷ (ls c ++ parts.1)) in
      record {
        wide = length-set (set t.heads 64 (at t k).next) c k ∙ length-set t.heads 64 (at t k).next ∙ fits.wide;
        shaped = entry_shaped t.entries k e nonce fits.shaped;
        linked = moved_upto ls c (k ∷ ls c) fs below (λ d xs. Linked es' (head after d) xs)
            (head_here, link.1, omega (arith, link.2, longer), subst (λ (x : Entry). Linked es' x.next (ls c)) (sym there) (linked_frame t.entries (head t c) (ls c) k e (not_used c below) (fits.linked c (omega (arith, below)))))
            (subst (λ h. Linked es' h fs) (sym head_free) (linked_frame t.entries (at t k).next fs k e not_free link.3))
            (λ d lt ne. subst (λ h. Linked es' h (ls d)) (sym (head_other d lt ne)) (linked_frame t.entries (head t d) (ls d) k e (not_used d lt) (fits.linked d (omega arith))));
        placed = moved_below ls c (k ∷ ls c) fs below (λ d xs. AllByRecursion (λ j. chain_of (entry es' j).nonce ≡ d) xs)
            (ap (λ (x : Entry). chain_of x.nonce) there, all_frame (λ x. chain_of x.nonce ≡ c) t.entries k e (ls c) (not_used c below) (fits.placed c below))
            (λ d lt ne. all_frame (λ x. chain_of x.nonce ≡ d) t.entries k e (ls d) (not_used d lt) (fits.placed d lt));
        unfree = λ d lt. subst (λ g. AllByRecursion (λ j. Not j g) (ms d)) (sym (moved_free ls c (k ∷ ls c) fs below))
            (moved_below ls c (k ∷ ls c) fs below (λ d xs. AllByRecursion (λ j. Not j fs) xs)
            (not_free, fewer c below) (λ d lt ne. fewer d lt) d lt);
        blank = subst (AllByRecursion (λ j. ((entry es' j).epoch ≡ 0) × ((entry es' j).nonce ≡ replicate 32 0))) (sym (moved_free ls c (k ∷ ls c) fs below))
            (all_frame (λ x. (x.epoch ≡ 0) × (x.nonce ≡ replicate 32 0)) t.entries k e fs not_free
            (subst (AllByRecursion (λ j. ((at t j).epoch ≡ 0) × ((at t j).nonce ≡ replicate 32 0))) first fits.blank).1);
        size = omega (arith, fits.size, count-was, count_is);
        room = omega (arith, fits.room, count-was, count_is, longer, ap length (moved_free ls c (k ∷ ls c) fs below), ap length first);
        apart = subst Apart (sym pairs_after) (apart_insert front back p (subst Apart pairs_before fits.apart) (λ h. new (subst (λ w. Has w p) (sym pairs_before) h)));
      }
    where
      fewer : (d : ℕ) → d < 64 → AllByRecursion (λ j. Not j fs) (ls d)
      fewer d lt = All-weaker (λ j. Not j (ls 64)) (λ j. Not j fs) (λ j n. (let m : Not j (k ∷ fs) = subst (Not j) first n in m.1)) (ls d) (fits.unfree d lt)
