-- A table after drop: each chain has lost the records of the epoch, and they stand at the free chain's
-- front, the last one first. Assumes nothing.
use Rattle.std.proofs.Common.{◌≡◌, ℕ, zero, suc, ◌<◌, ◌≤◌, true, false, cond, not, eqb, List, [], ◌∷◌, ◌++◌, length, filter, sym, refl, ap, ◌∙◌, subst, inr, ⊎_elim, arith}
use Rattle.std.specs.List.{AllByRecursion}
use Rattle.std.proofs.lemmas.Bool.{cases_Bool, cases_eq, eq-eqb, ne_eqb, cond-true, cond-false, not_from_true, not_from_false}
use Rattle.std.proofs.lemmas.List.{append_assoc}
use Rattle.std.proofs.ByRecursion.{All-append, All-weaker, all_kept_by}
use Rattle.book.specs.Meaning.{Pair}
use Rattle.chains.specs.Tables.{Table, at, head, swept, freed, bridged}
use Rattle.chains.specs.Chains.{of, fronted}
use Rattle.chains.proofs.Links.{all_left, all_right, Not, Linked, linked_suffix, linked_start}
use Rattle.chains.proofs.Joins.{kept_same, all_both}
use Rattle.chains.proofs.Fits.{pair_at, Fits, moved_same, moved_free, moved_other}
use Rattle.chains.proofs.Freeing.{Before, freed_table, freed_lists, freed_same, freed_fits, freed_long, not_one}

-- the records of a list that are not of an epoch, and those that are
abbrev pub stay : Table → ℕ → List ℕ → List ℕ
stay t epoch = filter (λ k. not (of t epoch k))

abbrev pub go : Table → ℕ → List ℕ → List ℕ
go t epoch = filter (of t epoch)

abbrev pub Same : Table → Table → ℕ → Type 0
Same t u j = pair_at u j ≡ pair_at t j

pub stay_same : (t u : Table) (e : ℕ) (ks : List ℕ) → AllByRecursion (Same t u) ks → stay u e ks ≡ stay t e ks
stay_same t u e ks a = kept_same (λ k. not (of t e k)) (λ k. not (of u e k)) ks
    (All-weaker (Same t u) (λ k. not (of u e k) ≡ not (of t e k)) (λ k s. ap (λ (p : Pair). not (eqb p.0 e)) s) ks a)

pub go_same : (t u : Table) (e : ℕ) (ks : List ℕ) → AllByRecursion (Same t u) ks → go u e ks ≡ go t e ks
go_same t u e ks a = kept_same (of t e) (of u e) ks
    (All-weaker (Same t u) (λ k. of u e k ≡ of t e k) (λ k s. ap (λ (p : Pair). eqb p.0 e) s) ks a)

-- what a sweep of the rest of a chain makes
pub record Swept (e c : ℕ) (t : Table) (ls : ℕ → List ℕ) (pre rest : List ℕ) (u : Table) (ms : ℕ → List ℕ) : Type 0 where
  pub fits : Fits u ms
  pub other : (d : ℕ) → d < 64 → (d ≡ c → ⊥) → ms d ≡ ls d
  pub here : ms c ≡ pre ++ stay t e rest
  pub frees : ms 64 ≡ fronted (go t e rest) (ls 64)
  pub same : (d : ℕ) → d < 64 → AllByRecursion (Same t u) (ms d)
  pub long : length u.entries ≡ length t.entries

all_refl : (t : Table) (ks : List ℕ) → AllByRecursion (Same t t) ks
all_refl t [] = tt
all_refl t (k ∷ ks) = (refl, all_refl t ks)

none : (e c : ℕ) (t : Table) (ls : ℕ → List ℕ) (pre : List ℕ) → Fits t ls → ls c ≡ pre ++ [] → Swept e c t ls pre [] t ls
none e c t ls pre fits is = record {
  fits = fits;
  other = λ d lt ne. refl;
  here = is;
  frees = refl;
  same = λ d lt. all_refl t (ls d);
  long = refl;
}

-- a record that stays
kept : (e c : ℕ) (t : Table) (ls : ℕ → List ℕ) (pre : List ℕ) (x : ℕ) (ks : List ℕ) (u : Table) (ms : ℕ → List ℕ)
    → of t e x ≡ false → Swept e c t ls (pre ++ x ∷ []) ks u ms → Swept e c t ls pre (x ∷ ks) u ms
kept e c t ls pre x ks u ms miss s = record {
  fits = s.fits;
  other = s.other;
  here = s.here ∙ append_assoc pre (x ∷ []) (stay t e ks)
      ∙ ap (λ w. pre ++ w) (sym (cond-true (not (of t e x)) (x ∷ stay t e ks) (stay t e ks) (not_from_false (of t e x) miss)));
  frees = s.frees ∙ ap (λ w. fronted w (ls 64)) (sym (cond-false (of t e x) (x ∷ go t e ks) (go t e ks) miss));
  same = s.same;
  long = s.long;
}

-- a record that goes
gone : (e c : ℕ) (t : Table) (ls : ℕ → List ℕ) (pre : List ℕ) (b x : ℕ) (ks : List ℕ) (u : Table) (ms : ℕ → List ℕ)
    → (fits : Fits t ls) (below : c < 64) (is : ls c ≡ pre ++ x ∷ ks) (before : Before pre b)
    → of t e x ≡ true
    → Swept e c (freed_table t ls c pre b x ks fits below is before) (freed_lists t ls c pre b x ks fits below is before) pre ks u ms
    → Swept e c t ls pre (x ∷ ks) u ms
unfolding freed_lists
gone e c t ls pre b x ks u ms fits below is before hit s =
    let v = freed_table t ls c pre b x ks fits below is before in
    let vs = freed_lists t ls c pre b x ks fits below is before in
    let now-c : vs c ≡ pre ++ ks = moved_same ls c (pre ++ ks) (x ∷ ls 64) below in
    let away : (d : ℕ) → d < 64 → Not x (vs d) = not_one t ls c pre b x ks fits below is before in
    let sames : (ys : List ℕ) → Not x ys → AllByRecursion (Same t v) ys = λ ys n. All-weaker (λ j. j ≡ x → ⊥) (Same t v) (freed_same t ls c pre b x ks fits below is before) ys n in
    let away-c : Not x (pre ++ ks) = subst (Not x) now-c (away c below) in
    let away-pre = all_left (λ j. j ≡ x → ⊥) pre ks away-c in
    let away-ks = all_right (λ j. j ≡ x → ⊥) pre ks away-c in
    let still = sames ks away-ks in
    let left : (d : ℕ) → d < 64 → Not x (ms d) = λ d lt. ⊎_elim
    (λ (q : d ≡ c). subst (λ z. Not x (ms z)) (sym q) (subst (Not x) (sym s.here)
    (All-append (λ j. j ≡ x → ⊥) pre (stay v e ks) away-pre (all_kept_by (λ k. not (of v e k)) (λ j. j ≡ x → ⊥) ks away-ks))))
    (λ (ne : d ≡ c → ⊥). subst (Not x) (sym (s.other d lt ne)) (away d lt))
    (cases_eq d c) in
    record {
      fits = s.fits;
      other = λ d lt ne. s.other d lt ne ∙ moved_other ls c (pre ++ ks) (x ∷ ls 64) below d lt ne;
      here = s.here ∙ ap (λ w. pre ++ w) (stay_same t v e ks still
          ∙ sym (cond-false (not (of t e x)) (x ∷ stay t e ks) (stay t e ks) (not_from_true (of t e x) hit)));
      frees = s.frees ∙ ap (λ w. fronted w (vs 64)) (go_same t v e ks still)
          ∙ ap (fronted (go t e ks)) (moved_free ls c (pre ++ ks) (x ∷ ls 64) below)
          ∙ ap (λ w. fronted w (ls 64)) (sym (cond-true (of t e x) (x ∷ go t e ks) (go t e ks) hit));
      same = λ d lt. all_both (Same v u) (Same t v) (Same t u) (ms d) (λ j p q. p ∙ q) (s.same d lt) (sames (ms d) (left d lt));
      long = s.long ∙ freed_long t ls c pre b x ks fits below is before;
    }

freed_is : (t : Table) (ls : ℕ → List ℕ) (c : ℕ) (pre : List ℕ) (b x : ℕ) (ks : List ℕ) (fits : Fits t ls) (below : c < 64) (is : ls c ≡ pre ++ x ∷ ks) (before : Before pre b)
    → freed_table t ls c pre b x ks fits below is before ≡ freed (bridged t c b (at t x).next) x
unfolding freed_table
freed_is t ls c pre b x ks fits below is before = refl

lists_c : (t : Table) (ls : ℕ → List ℕ) (c : ℕ) (pre : List ℕ) (b x : ℕ) (ks : List ℕ) (fits : Fits t ls) (below : c < 64) (is : ls c ≡ pre ++ x ∷ ks) (before : Before pre b)
    → freed_lists t ls c pre b x ks fits below is before c ≡ pre ++ ks
unfolding freed_lists
lists_c t ls c pre b x ks fits below is before = moved_same ls c (pre ++ ks) (x ∷ ls 64) below

-- one chain from a record on
pub sweep : (e c : ℕ) (t : Table) (ls : ℕ → List ℕ) (pre : List ℕ) (b : ℕ) (rest : List ℕ) (f k : ℕ)
    → Fits t ls → c < 64 → ls c ≡ pre ++ rest → Before pre b → length rest ≤ f → Linked t.entries k rest
    → (ms : ℕ → List ℕ) × Swept e c t ls pre rest (swept e c f b k t) ms
unfolding swept
sweep e c t ls pre b [] zero k fits below is before room l = (ls, none e c t ls pre fits is)
sweep e c t ls pre b [] (suc f) k fits below is before room l =
    (ls, subst (λ u. Swept e c t ls pre [] u ls) (sym (cond-true (eqb k 0) t _ (eq-eqb k 0 l))) (none e c t ls pre fits is))
sweep e c t ls pre b (x ∷ ks) zero k fits below is before room l = absurd (omega arith)
sweep e c t ls pre b (x ∷ ks) (suc f) k fits below is before room l =
    let Goal : Table → Type 0 = λ u. (ms : ℕ → List ℕ) × Swept e c t ls pre (x ∷ ks) u ms in
    let off = swept e c f b (at t x).next (freed (bridged t c b (at t x).next) x) in
    let on = swept e c f x (at t x).next t in
    let some = ne_eqb x 0 (λ z. omega (arith, l.1)) in
    let whole : Goal (cond (of t e x) off on) = ⊎_elim
    (λ (hit : of t e x ≡ true).
    let v = freed_table t ls c pre b x ks fits below is before in
    let vs = freed_lists t ls c pre b x ks fits below is before in
    let fits' = freed_fits t ls c pre b x ks fits below is before in
    let now-c : vs c ≡ pre ++ ks = lists_c t ls c pre b x ks fits below is before in
    let tail = linked_suffix v.entries (head v c) pre ks (subst (Linked v.entries (head v c)) now-c (fits'.linked c (omega arith))) in
    let start : tail.0 ≡ (at t x).next = linked_start v.entries t.entries tail.0 (at t x).next ks tail.1 l.3 in
    let more = sweep e c v vs pre b ks f (at t x).next fits' below now-c before (omega arith) (subst (λ m. Linked v.entries m ks) start tail.1) in
    let done : Swept e c t ls pre (x ∷ ks) (swept e c f b (at t x).next v) more.0 = gone e c t ls pre b x ks (swept e c f b (at t x).next v) more.0 fits below is before hit more.1 in
    let off-is : swept e c f b (at t x).next v ≡ off = ap (swept e c f b (at t x).next) (freed_is t ls c pre b x ks fits below is before) in
    subst Goal (off-is ∙ sym (cond-true (of t e x) off on hit)) (more.0, done))
    (λ (miss : of t e x ≡ false).
    let more = sweep e c t ls (pre ++ x ∷ []) x ks f (at t x).next fits below (is ∙ sym (append_assoc pre (x ∷ []) ks)) (inr (pre, refl)) (omega arith) l.3 in
    subst Goal (sym (cond-false (of t e x) off on miss)) (more.0, kept e c t ls pre x ks on more.0 miss more.1))
    (cases_Bool (of t e x)) in
    subst (λ z. Goal (swept e c (suc f) b z t)) (sym l.0) (subst Goal (sym (cond-false (eqb x 0) t (cond (of t e x) off on) some)) whole)
