-- A table with its chains as lists of numbers, and what mark and the freeing of a record make of
-- both. Assumes nothing.
use Rattle.std.proofs.Common.{◌≡◌, ℕ, zero, suc, ◌+◌, ◌<◌, ◌≤◌, cond, eqb, ◌⊎◌, List, [], ◌∷◌, map, length, get_or, set, replicate, sym, refl, ap, ◌∙◌, subst, inl, inr, ⊎_elim, mod-lt, arith}
use Rattle.std.specs.List.{range_with_len, flat_map, AllByRecursion}
use Rattle.std.proofs.lemmas.Bool.{cases_eq, eq-eqb, ne_eqb, cond-true, cond-false}
use Rattle.std.proofs.lemmas.List.{length-set, length-append, get_or-set_same, get_or-set_other, append_assoc, map-append, length-replicate}
use Rattle.book.specs.Meaning.{Pair, Apart}
use Rattle.chains.specs.Tables.{Entry, Table, entry, put, at, head, pair_of, chain_of}
use Rattle.chains.proofs.Links.{entry_put_same, entry_put_other, Not, Linked}

-- the numbers of all records that hold pairs
abbrev pub all_of : (ℕ → List ℕ) → List ℕ
all_of ls = flat_map ls (range_with_len 0 64)

abbrev pub pair_at : Table → ℕ → Pair
pair_at t k = pair_of (at t k)

-- these lists are the chains of this table, and the table is sound
pub record Fits (t : Table) (ls : ℕ → List ℕ) : Type 0 where
  pub wide : length t.heads ≡ 65
  pub shaped : (k : ℕ) → length (at t k).nonce ≡ 32
  pub linked : (c : ℕ) → c ≤ 64 → Linked t.entries (head t c) (ls c)
  pub placed : (c : ℕ) → c < 64 → AllByRecursion (λ k. chain_of (at t k).nonce ≡ c) (ls c)
  pub unfree : (c : ℕ) → c < 64 → AllByRecursion (λ k. Not k (ls 64)) (ls c)
  pub blank : AllByRecursion (λ k. ((at t k).epoch ≡ 0) × ((at t k).nonce ≡ replicate 32 0)) (ls 64)
  pub size : t.size ≡ length (all_of ls)
  pub room : length (all_of ls) + length (ls 64) ≡ length t.entries
  pub apart : Apart (map (pair_at t) (all_of ls))

-- ---- one chain and the free chain change
pub moved : (ℕ → List ℕ) → ℕ → List ℕ → List ℕ → ℕ → List ℕ
moved ls c xs fs d = cond (eqb d c) xs (cond (eqb d 64) fs (ls d))

module _ (ls : ℕ → List ℕ) (c : ℕ) (xs fs : List ℕ) (below : c < 64) where
  pub moved_same : moved ls c xs fs c ≡ xs
  unfolding moved
  moved_same = cond-true _ _ _ (eq-eqb c c refl)

  pub moved_free : moved ls c xs fs 64 ≡ fs
  unfolding moved
  moved_free = cond-false _ _ _ (ne_eqb 64 c (λ e. omega arith)) ∙ cond-true _ fs (ls 64) (eq-eqb 64 64 refl)

  pub moved_other : (d : ℕ) → d < 64 → (d ≡ c → ⊥) → moved ls c xs fs d ≡ ls d
  unfolding moved
  moved_other d lt ne = cond-false _ _ _ (ne_eqb d c ne) ∙ cond-false _ fs (ls d) (ne_eqb d 64 (λ e. omega arith))

  pub moved_below : (Q : ℕ → List ℕ → Type 0) → Q c xs → ((d : ℕ) → d < 64 → (d ≡ c → ⊥) → Q d (ls d)) → (d : ℕ) → d < 64 → Q d (moved ls c xs fs d)
  moved_below Q here there d lt =
      ⊎_elim
      (λ (e : d ≡ c). subst (λ x. Q x (moved ls c xs fs x)) (sym e) (subst (Q c) (sym moved_same) here))
      (λ (ne : d ≡ c → ⊥). subst (Q d) (sym (moved_other d lt ne)) (there d lt ne))
      (cases_eq d c)

  pub moved_upto : (Q : ℕ → List ℕ → Type 0) → Q c xs → Q 64 fs → ((d : ℕ) → d < 64 → (d ≡ c → ⊥) → Q d (ls d)) → (d : ℕ) → d ≤ 64 → Q d (moved ls c xs fs d)
  moved_upto Q here last there d le =
      ⊎_elim
      (λ (e : d ≡ 64). subst (λ x. Q x (moved ls c xs fs x)) (sym e) (subst (Q 64) (sym moved_free) last))
      (λ (ne : d ≡ 64 → ⊥). moved_below Q here there d (omega arith))
      (cases_eq d 64)

-- ---- what a write of another record leaves
pub all_frame : (P : Entry → Type 0) (es : List Entry) (k : ℕ) (e : Entry) (ks : List ℕ) → Not k ks → AllByRecursion (λ j. P (entry es j)) ks → AllByRecursion (λ j. P (entry (put es k e) j)) ks
all_frame P es k e [] n a = tt
all_frame P es k e (j ∷ js) n a = (subst P (sym (entry_put_other es k j e n.0)) a.0, all_frame P es k e js n.1 a.1)

pub pairs_frame : (es : List Entry) (k : ℕ) (e : Entry) (ks : List ℕ) → Not k ks → AllByRecursion (λ j. pair_of (entry (put es k e) j) ≡ pair_of (entry es j)) ks
pairs_frame es k e [] n = tt
pairs_frame es k e (j ∷ js) n = (ap pair_of (entry_put_other es k j e n.0), pairs_frame es k e js n.1)

pub entry_shaped : (es : List Entry) (k : ℕ) (e : Entry) → length e.nonce ≡ 32 → ((j : ℕ) → length (entry es j).nonce ≡ 32) → (j : ℕ) → length (entry (put es k e) j).nonce ≡ 32
entry_shaped es zero e l s j = s j
entry_shaped es (suc k) e l s j =
    ⊎_elim
    (λ (q : j ≡ suc k). ⊎_elim
    (λ (in' : suc k ≤ length es). subst (λ x. length (entry (set es k e) x).nonce ≡ 32) (sym q) (subst (λ (x : Entry). length x.nonce ≡ 32) (sym (entry_put_same es (suc k) e (omega arith) in')) l))
    (λ (out : suc k ≤ length es → ⊥). subst (λ x. length (entry x j).nonce ≡ 32) (sym (Rattle.std.proofs.lemmas.List.set_past es k e (omega arith))) (s j))
    (dec_le (suc k) (length es)))
    (λ (ne : j ≡ suc k → ⊥). subst (λ (x : Entry). length x.nonce ≡ 32) (sym (entry_put_other es (suc k) j e ne)) (s j))
    (cases_eq j (suc k))
  where
    dec_le : (a b : ℕ) → (a ≤ b) ⊎ (a ≤ b → ⊥)
    dec_le a b = ⊎_elim (λ (l : b < a). inr (λ m. omega arith)) (λ (l : a ≤ b). inl l) (Rattle.std.proofs.lemmas.Bool.cases_lt b a)

pub chain_below : (v : List ℕ) → chain_of v < 64
chain_below v = mod-lt (get_or v 31 0) (omega arith)
