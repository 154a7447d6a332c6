-- Drop goes through all 64 chains. Assumes nothing.
use Rattle.std.proofs.Common.{◌≡◌, ℕ, zero, suc, ◌+◌, ◌<◌, ◌≤◌, not, List, [], ◌∷◌, ◌++◌, map, length, sym, refl, ap, ◌∙◌, subst, inl, ⊎_elim, arith}
use Rattle.std.specs.List.{range_with_len, flat_map, AllByRecursion}
use Rattle.std.proofs.lemmas.Bool.{cases_eq, cases_lt}
use Rattle.std.proofs.lemmas.List.{length-append}
use Rattle.std.proofs.ByRecursion.{all_kept_by}
use Rattle.book.specs.Meaning.{others}
use Rattle.chains.specs.Tables.{Table, head, swept, swept_from, dropped}
use Rattle.chains.specs.Chains.{of, fronted}
use Rattle.chains.proofs.Joins.{split, joined_agree, all_joined, map_same, others_map, joined_others, all_both}
use Rattle.chains.proofs.Fits.{all_of, pair_at, Fits}
use Rattle.chains.proofs.Sweeping.{stay, go, Same, stay_same, go_same, Swept, sweep}

-- no chain is longer than there are records
pub chain_short : (t : Table) (ls : ℕ → List ℕ) (c : ℕ) → Fits t ls → c ≤ 64 → length (ls c) ≤ length t.entries
chain_short t ls c fits le =
    ⊎_elim
    (λ (q : c ≡ 64). subst (λ x. length (ls x) ≤ length t.entries) (sym q) (omega (arith, fits.room)))
    (λ (ne : c ≡ 64 → ⊥).
    let s = split ls 0 64 c (omega arith) (omega arith) in
    let e = ap length (s.2 ls (λ d lo hi n. refl)) ∙ length-append s.0 (ls c ++ s.1) in
    omega (arith, e, length-append (ls c) s.1, fits.room))
    (cases_eq c 64)

pub fronted_append : (xs ys zs : List ℕ) → fronted (xs ++ ys) zs ≡ fronted ys (fronted xs zs)
fronted_append [] ys zs = refl
fronted_append (x ∷ xs) ys zs = fronted_append xs ys (x ∷ zs)

-- so many chains from one on
pub record Sweeps (e c n : ℕ) (t : Table) (ls : ℕ → List ℕ) (u : Table) (ms : ℕ → List ℕ) : Type 0 where
  pub fits : Fits u ms
  pub behind : (d : ℕ) → d < c → ms d ≡ ls d
  pub ahead : (d : ℕ) → c ≤ d → d < 64 → ms d ≡ stay t e (ls d)
  pub frees : ms 64 ≡ fronted (flat_map (λ d. go t e (ls d)) (range_with_len c n)) (ls 64)
  pub same : (d : ℕ) → d < 64 → AllByRecursion (Same t u) (ms d)
  pub long : length u.entries ≡ length t.entries

all_refl : (t : Table) (ks : List ℕ) → AllByRecursion (Same t t) ks
all_refl t [] = tt
all_refl t (k ∷ ks) = (refl, all_refl t ks)

next_chain : (e c n : ℕ) (t : Table) (ls : ℕ → List ℕ) (u : Table) (ms : ℕ → List ℕ) (v : Table) (ns : ℕ → List ℕ)
    → c + suc n ≡ 64 → Swept e c t ls [] (ls c) u ms → Sweeps e (c + 1) n u ms v ns → Sweeps e c (suc n) t ls v ns
next_chain e c n t ls u ms v ns end one more =
    let below : c < 64 = omega arith in
    let later : (d : ℕ) → c + 1 ≤ d → d < 64 → AllByRecursion (Same t u) (ls d) = λ d lo hi. subst (AllByRecursion (Same t u)) (one.other d hi (λ q. omega arith)) (one.same d hi) in
    let part : (d : ℕ) → d < 64 → AllByRecursion (Same t u) (ns d) = λ d lt. ⊎_elim
    (λ (b : d < c + 1). subst (AllByRecursion (Same t u)) (sym (more.behind d b)) (one.same d lt))
    (λ (a : c + 1 ≤ d). subst (AllByRecursion (Same t u)) (sym (more.ahead d a lt)) (all_kept_by (λ k. not (of u e k)) (Same t u) (ms d) (one.same d lt)))
    (cases_lt d (c + 1)) in
    record {
      fits = more.fits;
      behind = λ d b. more.behind d (omega arith) ∙ one.other d (omega arith) (λ q. omega arith);
      ahead = λ d lo hi. ⊎_elim
          (λ (q : d ≡ c). subst (λ x. ns x ≡ stay t e (ls x)) (sym q) (more.behind c (omega arith) ∙ one.here))
          (λ (ne : d ≡ c → ⊥). more.ahead d (omega arith) hi ∙ ap (stay u e) (one.other d hi ne) ∙ stay_same t u e (ls d) (later d (omega arith) hi))
          (cases_eq d c);
      frees = more.frees ∙ ap (fronted (flat_map (λ d. go u e (ms d)) (range_with_len (c + 1) n))) one.frees
          ∙ sym (fronted_append (go t e (ls c)) (flat_map (λ d. go u e (ms d)) (range_with_len (c + 1) n)) (ls 64))
          ∙ ap (λ w. fronted (go t e (ls c) ++ w) (ls 64)) (agree later);
      same = λ d lt. all_both (Same u v) (Same t u) (Same t v) (ns d) (λ j p q. p ∙ q) (more.same d lt) (part d lt);
      long = more.long ∙ one.long;
    }
  where
    agree : ((d : ℕ) → c + 1 ≤ d → d < 64 → AllByRecursion (Same t u) (ls d)) → flat_map (λ d. go u e (ms d)) (range_with_len (c + 1) n) ≡ flat_map (λ d. go t e (ls d)) (range_with_len (c + 1) n)
    agree later = joined_agree (λ d. go u e (ms d)) (λ d. go t e (ls d)) (c + 1) n (λ d lo hi. ap (go u e) (one.other d (omega arith) (λ q. omega arith)) ∙ go_same t u e (ls d) (later d lo (omega arith)))

pub sweeps : (e c n : ℕ) (t : Table) (ls : ℕ → List ℕ) → c + n ≡ 64 → Fits t ls → (ms : ℕ → List ℕ) × Sweeps e c n t ls (swept_from e c n t) ms
unfolding swept_from
sweeps e c zero t ls end fits = (
  ls,
  record {
    fits = fits;
    behind = λ d b. refl;
    ahead = λ d lo hi. absurd (omega arith);
    frees = refl;
    same = λ d lt. all_refl t (ls d);
    long = refl;
  },
)
sweeps e c (suc n) t ls end fits =
    let below : c < 64 = omega arith in
    let one = sweep e c t ls [] 0 (ls c) (length t.entries) (head t c) fits below refl (inl (refl, refl)) (chain_short t ls c fits (omega arith)) (fits.linked c (omega arith)) in
    let u = swept e c (length t.entries) 0 (head t c) t in
    let more = sweeps e (c + 1) n u one.0 (omega arith) one.1.fits in
    (more.0, next_chain e c n t ls u one.0 (swept_from e (c + 1) n u) more.0 end one.1 more.1)

-- drop, with the chains that it leaves
module _ (e : ℕ) (t : Table) (ls : ℕ → List ℕ) (fits : Fits t ls) where
  all : (ms : ℕ → List ℕ) × Sweeps e 0 64 t ls (dropped e t) ms
  all = sweeps e 0 64 t ls refl fits

  pub drop_lists : ℕ → List ℕ
  drop_lists = all.0

  pub drop_fits : Fits (dropped e t) drop_lists
  unfolding drop_lists
  drop_fits = all.1.fits

  pub drop_chain : (d : ℕ) → d < 64 → drop_lists d ≡ stay t e (ls d)
  unfolding drop_lists
  drop_chain d lt = all.1.ahead d (omega arith) lt

  pub drop_free : drop_lists 64 ≡ fronted (flat_map (λ d. go t e (ls d)) (range_with_len 0 64)) (ls 64)
  unfolding drop_lists
  drop_free = all.1.frees

  pub drop_long : length (dropped e t).entries ≡ length t.entries
  drop_long = all.1.long

  pub drop_pairs : map (pair_at (dropped e t)) (all_of drop_lists) ≡ others e (map (pair_at t) (all_of ls))
  unfolding drop_lists
  drop_pairs =
      map_same (pair_at t) (pair_at (dropped e t)) (all_of drop_lists) (all_joined (Same t (dropped e t)) drop_lists 0 64 (λ d lo hi. all.1.same d hi))
      ∙ joined_others (pair_at t) e ls drop_lists 0 64 (λ d lo hi. ap (map (pair_at t)) (drop_chain d hi) ∙ sym (others_map (pair_at t) e (ls d)))
