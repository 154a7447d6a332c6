-- One step of each walk, and its end. Assumes nothing.
use Rattle.std.proofs.Common.{◌≡◌, ℕ, zero, suc, ◌+◌, ◌-◌, ◌<◌, ◌≤◌, cond, eqb, ltb, ◌⊎◌, List, [], ◌∷◌, map, length, get_or, set, replicate, sym, refl, ap, ◌∙◌, subst, inl, inr, ⊎_elim, arith}
use Rattle.std.specs.List.{range_with_len, ContainsAt as Has}
use Rattle.std.proofs.lemmas.Bool.{cases_eq, eq-eqb, ne_eqb, lt-ltb, le-ltb, cond-true, cond-false}
use Rattle.std.proofs.lemmas.List.{same_lists, get_or_default, get_or-set_same, get_or-set_other}
use Rattle.std.proofs.lemmas.List.FromFn.{length-map-range_with_len, get_or-map-range_with_len}
use Rattle.book.specs.Meaning.{Pair}
use Rattle.book.proofs.Sets.{has_here, has_there, has_cases}
use Rattle.chains.specs.Tables.{Entry, Table, blank, entry, put, at, head, pair_of, chain_of, with_head, with_size, with_entry, bridged, freed, marked, swept, swept_from, cleared}
use Rattle.chains.specs.Chains.{walk}
use Rattle.chains.specs.Calls.{Chained}

-- ---- looking for a pair
pub walk_step : (es : List Entry) (steps k : ℕ) → (k ≡ 0 → ⊥) → 0 < steps → walk es steps k ≡ k ∷ walk es (steps - 1) (entry es k).next
unfolding walk
walk_step es zero k ne lt = absurd (omega arith)
walk_step es (suc s) k ne lt =
    let e : suc s - 1 ≡ s = omega arith in
    cond-false (eqb k 0) [] (k ∷ walk es s (entry es k).next) (ne_eqb k 0 ne) ∙ ap (λ x. k ∷ walk es x (entry es k).next) (sym e)

pub walk_end : (es : List Entry) (steps k : ℕ) → (k ≡ 0) ⊎ (steps ≡ 0) → walk es steps k ≡ []
unfolding walk
walk_end es zero k h = refl
walk_end es (suc s) k (inl z) = cond-true (eqb k 0) [] (k ∷ walk es s (entry es k).next) (eq-eqb k 0 z)
walk_end es (suc s) k (inr z) = absurd (omega arith)

module _ (f : ℕ → Pair) (es : List Entry) (steps k : ℕ) (p : Pair) where
  pub found_here : (k ≡ 0 → ⊥) → 0 < steps → f k ≡ p → Has (map f (walk es steps k)) p
  found_here ne lt e = subst (λ w. Has (map f w) p) (sym (walk_step es steps k ne lt))
      (subst (Has (f k ∷ map f (walk es (steps - 1) (entry es k).next))) e (has_here (f k) (map f (walk es (steps - 1) (entry es k).next))))

  pub found_later : (k ≡ 0 → ⊥) → 0 < steps → Has (map f (walk es (steps - 1) (entry es k).next)) p → Has (map f (walk es steps k)) p
  found_later ne lt h = subst (λ w. Has (map f w) p) (sym (walk_step es steps k ne lt))
      (has_there (f k) (map f (walk es (steps - 1) (entry es k).next)) p h)

  pub not_here : (k ≡ 0 → ⊥) → 0 < steps → (f k ≡ p → ⊥) → Has (map f (walk es steps k)) p → Has (map f (walk es (steps - 1) (entry es k).next)) p
  not_here ne lt miss h = ⊎_elim (λ (e : f k ≡ p). absurd (miss e)) (λ r. r)
      (has_cases (f k) (map f (walk es (steps - 1) (entry es k).next)) p (subst (λ w. Has (map f w) p) (walk_step es steps k ne lt) h))

  pub not_any : (k ≡ 0) ⊎ (steps ≡ 0) → Has (map f (walk es steps k)) p → ⊥
  not_any end h =
      let n : Has {X = Pair} [] p = subst (λ w. Has (map f w) p) (walk_end es steps k end) h in
      omega (arith, n.1)

-- the pair is in what is left of a walk
unfoldable pub Ahead : Table → ℕ → ℕ → Pair → Type 0
Ahead t steps k p = Has (map (λ j. pair_of (at t j)) (walk t.entries steps k)) p

module _ (t : Table) (steps k : ℕ) (p : Pair) where
  pub ahead_here : (k ≡ 0 → ⊥) → 0 < steps → pair_of (at t k) ≡ p → Ahead t steps k p
  unfolding Ahead
  ahead_here ne lt e = found_here (λ j. pair_of (at t j)) t.entries steps k p ne lt e

  pub ahead_later : (n s : ℕ) → n ≡ (at t k).next → s ≡ steps - 1 → (k ≡ 0 → ⊥) → 0 < steps → Ahead t s n p → Ahead t steps k p
  unfolding Ahead
  ahead_later n s next less ne lt h = found_later (λ j. pair_of (at t j)) t.entries steps k p ne lt
      (subst (λ x. Has (map (λ j. pair_of (at t j)) (walk t.entries (steps - 1) x)) p) next (subst (λ x. Has (map (λ j. pair_of (at t j)) (walk t.entries x n)) p) less h))

  pub ahead_not_here : (n s : ℕ) → n ≡ (at t k).next → s ≡ steps - 1 → (k ≡ 0 → ⊥) → 0 < steps → (pair_of (at t k) ≡ p → ⊥) → Ahead t steps k p → Ahead t s n p
  unfolding Ahead
  ahead_not_here n s next less ne lt miss h =
      subst (λ x. Has (map (λ j. pair_of (at t j)) (walk t.entries x n)) p) (sym less) (subst (λ x. Has (map (λ j. pair_of (at t j)) (walk t.entries (steps - 1) x)) p) (sym next)
      (not_here (λ j. pair_of (at t j)) t.entries steps k p ne lt miss h))

  pub ahead_none : (k ≡ 0) ⊎ (steps ≡ 0) → Ahead t steps k p → ⊥
  unfolding Ahead
  ahead_none end h = not_any (λ j. pair_of (at t j)) t.entries steps k p end h

pub chained_ahead : (t : Table) (p : Pair) (steps k c : ℕ) → steps ≡ length t.entries → c ≡ chain_of p.1 → k ≡ head t c → (Ahead t steps k p → Chained t p) × (Chained t p → Ahead t steps k p)
unfolding Ahead Chained
chained_ahead t p steps k c s e h =
    let In : ℕ → ℕ → Type 0 = λ m x. Has (map (λ j. pair_of (at t j)) (walk t.entries m x)) p in
    let first : k ≡ head t (chain_of p.1) = h ∙ ap (head t) e in
    (λ a. subst (λ m. In m (head t (chain_of p.1))) s (subst (In steps) first a), λ a. subst (In steps) (sym first) (subst (λ m. In m (head t (chain_of p.1))) (sym s) a))

-- ---- dropping an epoch
pub swept_end : (e c steps b k : ℕ) (t : Table) → (k ≡ 0) ⊎ (steps ≡ 0) → swept e c steps b k t ≡ t
unfolding swept
swept_end e c zero b k t h = refl
swept_end e c (suc s) b k t (inl z) = cond-true (eqb k 0) t _ (eq-eqb k 0 z)
swept_end e c (suc s) b k t (inr z) = absurd (omega arith)

pub swept_hit : (e c steps b k : ℕ) (t : Table) → (k ≡ 0 → ⊥) → 0 < steps → (at t k).epoch ≡ e
    → swept e c steps b k t ≡ swept e c (steps - 1) b (at t k).next (freed (bridged t c b (at t k).next) k)
unfolding swept
swept_hit e c zero b k t ne lt hit = absurd (omega arith)
swept_hit e c (suc s) b k t ne lt hit =
    let q : suc s - 1 ≡ s = omega arith in
    cond-false (eqb k 0) t _ (ne_eqb k 0 ne)
    ∙ cond-true (eqb (at t k).epoch e) (swept e c s b (at t k).next (freed (bridged t c b (at t k).next) k)) (swept e c s k (at t k).next t) (eq-eqb (at t k).epoch e hit)
    ∙ ap (λ x. swept e c x b (at t k).next (freed (bridged t c b (at t k).next) k)) (sym q)

pub swept_miss : (e c steps b k : ℕ) (t : Table) → (k ≡ 0 → ⊥) → 0 < steps → ((at t k).epoch ≡ e → ⊥)
    → swept e c steps b k t ≡ swept e c (steps - 1) k (at t k).next t
unfolding swept
swept_miss e c zero b k t ne lt miss = absurd (omega arith)
swept_miss e c (suc s) b k t ne lt miss =
    let q : suc s - 1 ≡ s = omega arith in
    cond-false (eqb k 0) t _ (ne_eqb k 0 ne)
    ∙ cond-false (eqb (at t k).epoch e) (swept e c s b (at t k).next (freed (bridged t c b (at t k).next) k)) (swept e c s k (at t k).next t) (ne_eqb (at t k).epoch e miss)
    ∙ ap (λ x. swept e c x k (at t k).next t) (sym q)

pub swept_next : (e c n : ℕ) (t : Table) → 0 < n → swept_from e c n t ≡ swept_from e (c + 1) (n - 1) (swept e c (length t.entries) 0 (head t c) t)
unfolding swept_from
swept_next e c zero t lt = absurd (omega arith)
swept_next e c (suc n) t lt =
    let q : suc n - 1 ≡ n = omega arith in
    ap (λ x. swept_from e (c + 1) x (swept e c (length t.entries) 0 (head t c) t)) (sym q)

pub swept_none : (e c : ℕ) (t : Table) → swept_from e c 0 t ≡ t
unfolding swept_from
swept_none e c t = refl

-- ---- clearing
-- a record of the zeroed table once those below a number are chained
unfoldable pub chained_below : ℕ → ℕ → Entry
chained_below number k = record { next = cond (ltb (k + 1) number) (k + 2) 0; epoch = 0; nonce = replicate 32 0 }

pub none_chained : (number k : ℕ) → number ≤ 1 → chained_below number k ≡ blank
unfolding chained_below
none_chained number k le = ap (λ (b : ℕ). record { next = b; epoch = 0; nonce = replicate 32 0 }) (cond-false (ltb (k + 1) number) (k + 2) 0 (le-ltb (k + 1) number (omega arith)))

-- one number more
pub one_chained : (es : List Entry) (number k : ℕ) → 1 ≤ number → number < length es → k < length es
    → ((j : ℕ) → j < length es → get_or es j blank ≡ chained_below number j)
    → get_or (put es number (record { next = number + 1; epoch = (entry es number).epoch; nonce = (entry es number).nonce })) k blank ≡ chained_below (number + 1) k
unfolding chained_below
one_chained es zero k lo hi b done = absurd (omega arith)
one_chained es (suc n) k lo hi b done =
    let was = done n (omega arith) in
    ⊎_elim
    (λ (q : k ≡ n). rw q (get_or-set_same es n _ blank (omega arith)
    ∙ (let x : cond (ltb (n + 1) (suc n + 1)) (n + 2) 0 ≡ suc n + 1 = cond-true _ _ _ (lt-ltb (n + 1) (suc n + 1) (omega arith)) ∙ omega arith in
    let e = ap (λ (w : Entry). w.epoch) was in
    let v = ap (λ (w : Entry). w.nonce) was in
    cc)))
    (λ (ne : k ≡ n → ⊥). get_or-set_other es n k _ blank ne ∙ done k b
    ∙ ap (λ (x : ℕ). record { next = x; epoch = 0; nonce = replicate 32 0 }) (⊎_elim
    (λ (l : k < n). cond-true (ltb (k + 1) (suc n)) (k + 2) 0 (lt-ltb (k + 1) (suc n) (omega arith)) ∙ sym (cond-true (ltb (k + 1) (suc n + 1)) (k + 2) 0 (lt-ltb (k + 1) (suc n + 1) (omega arith))))
    (λ (l : n ≤ k). cond-false (ltb (k + 1) (suc n)) (k + 2) 0 (le-ltb (k + 1) (suc n) (omega arith)) ∙ sym (cond-false (ltb (k + 1) (suc n + 1)) (k + 2) 0 (le-ltb (k + 1) (suc n + 1) (omega arith))))
    (Rattle.std.proofs.lemmas.Bool.cases_lt k n)))
    (cases_eq k n)

-- all of them
pub all_chained : (t : Table) (n number : ℕ) → t.heads ≡ replicate 65 0 → t.size ≡ 0 → length t.entries ≡ n → n ≤ number → (1 ≤ n → number ≡ n)
    → ((j : ℕ) → j < n → get_or t.entries j blank ≡ chained_below number j) → with_head t 64 1 ≡ cleared n
unfolding cleared chained_below
all_chained t n number heads size long past end done =
    let es : t.entries ≡ map (λ k. record { next = cond (ltb k n) (k + 1) 0; epoch = 0; nonce = replicate 32 0 }) (range_with_len 1 n) =
    same_lists t.entries _ (long ∙ sym (length-map-range_with_len _ 1 n)) (λ k d h.
    let lt : k < n = omega arith in
    get_or_default t.entries k d blank h ∙ done k lt
    ∙ (let x : cond (ltb (k + 1) number) (k + 2) 0 ≡ cond (ltb (k + 1) n) (k + 1 + 1) 0 = ap (λ m. cond (ltb (k + 1) m) (k + 2) 0) (end (omega arith)) ∙ ap (λ m. cond (ltb (k + 1) n) m 0) (omega arith) in
    ap (λ (y : ℕ). record { next = y; epoch = 0; nonce = replicate 32 0 }) x)
    ∙ sym (get_or-map-range_with_len (λ j. record { next = cond (ltb j n) (j + 1) 0; epoch = 0; nonce = replicate 32 0 }) 1 n k (k + 1) d lt (omega arith))) in
    let hs : set t.heads 64 1 ≡ set (replicate 65 0) 64 1 = ap (λ h. set h 64 1) heads in
    cc

-- ---- a call's writes, one after another
pub freed_by : (t u v w : Table) (k first size less : ℕ) (zeros : List ℕ) → zeros ≡ replicate 32 0 → first ≡ head t 64 → size ≡ t.size → less ≡ size - 1
    → u ≡ with_entry t k (record { next = first; epoch = 0; nonce = zeros }) → v ≡ with_head u 64 k → w ≡ with_size v less → w ≡ freed t k
unfolding freed
freed_by t u v w k first size less zeros z f s l a b c =
    let made : ℕ → ℕ → List ℕ → Table = λ n m zs. record { heads = set t.heads 64 k; size = m; entries = put t.entries k (record { next = n; epoch = 0; nonce = zs }) } in
    c ∙ ap (λ (x : Table). with_size x less) (b ∙ ap (λ (x : Table). with_head x 64 k) a)
    ∙ ap (λ n. made n less zeros) f ∙ ap (λ m. made (head t 64) m zeros) (l ∙ ap (λ m. m - 1) s) ∙ ap (made (head t 64) (t.size - 1)) z

pub marked_by : (t u v w x : Table) (p : Pair) (k c after first size : ℕ) → k ≡ head t 64 → c ≡ chain_of p.1 → after ≡ (at t k).next → first ≡ head t c → size ≡ t.size
    → u ≡ with_entry t k (record { next = first; epoch = p.0; nonce = p.1 }) → v ≡ with_head u 64 after → w ≡ with_head v c k → x ≡ with_size w (size + 1) → x ≡ marked t p
unfolding marked
marked_by t u v w x p k c after first size e1 e2 e3 e4 e5 a b d f = cc
