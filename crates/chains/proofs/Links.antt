-- Chains of records as lists of numbers: what a write elsewhere leaves, that no record stands in a
-- chain twice, and that a record can be taken out of the middle. Assumes nothing.
use Rattle.std.proofs.Common.{◌≡◌, ℕ, zero, suc, ◌<◌, ◌≤◌, true, false, cond, eqb, List, [], ◌∷◌, ◌++◌, length, sym, refl, ap, ◌∙◌, subst, ⊎_elim, arith}
use Rattle.std.specs.List.{AllByRecursion}
use Rattle.std.proofs.lemmas.Bool.{cases_Bool, eqb-true, eqb-false, eq-eqb, ne_eqb, cond-true, cond-false}
use Rattle.std.proofs.lemmas.List.{length-set, get_or-set_same, get_or-set_other}
use Rattle.chains.specs.Tables.{Entry, blank, entry, put}
use Rattle.chains.specs.Chains.{walk, stop}

-- ---- one record written
pub entry_put_same : (es : List Entry) (k : ℕ) (e : Entry) → 1 ≤ k → k ≤ length es → entry (put es k e) k ≡ e
entry_put_same es zero e lo hi = absurd (omega arith)
entry_put_same es (suc k) e lo hi = get_or-set_same es k e blank (omega arith)

pub entry_put_other : (es : List Entry) (k j : ℕ) (e : Entry) → (j ≡ k → ⊥) → entry (put es k e) j ≡ entry es j
entry_put_other es k zero e ne = refl
entry_put_other es zero (suc j) e ne = refl
entry_put_other es (suc k) (suc j) e ne = get_or-set_other es k j e blank (λ q. ne (ap suc q))

pub length_put : (es : List Entry) (k : ℕ) (e : Entry) → length (put es k e) ≡ length es
length_put es zero e = refl
length_put es (suc k) e = length-set es k e

-- ---- parts of what holds of each
pub all_left : {X : Type 0} (P : X → Type 0) (xs ys : List X) → AllByRecursion P (xs ++ ys) → AllByRecursion P xs
all_left P [] ys a = tt
all_left P (x ∷ xs) ys a = (a.0, all_left P xs ys a.1)

pub all_right : {X : Type 0} (P : X → Type 0) (xs ys : List X) → AllByRecursion P (xs ++ ys) → AllByRecursion P ys
all_right P [] ys a = a
all_right P (x ∷ xs) ys a = all_right P xs ys a.1

-- the number is not among these
abbrev pub Not : ℕ → List ℕ → Type 0
Not k = AllByRecursion (λ j. j ≡ k → ⊥)

-- ---- the records of a chain, in order
abbrev pub Linked : List Entry → ℕ → List ℕ → Type 0
Linked es h [] = h ≡ 0
Linked es h (k ∷ ks) = (h ≡ k) × (1 ≤ k) × (k ≤ length es) × Linked es (entry es k).next ks

pub linked_frame : (es : List Entry) (h : ℕ) (ks : List ℕ) (k : ℕ) (e : Entry) → Not k ks → Linked es h ks → Linked (put es k e) h ks
linked_frame es h [] k e n l = l
linked_frame es h (j ∷ js) k e n l = (
  l.0,
  l.1,
  omega (arith, l.2, length_put es k e),
  subst (λ (x : Entry). Linked (put es k e) x.next js) (sym (entry_put_other es k j e n.0))
      (linked_frame es (entry es j).next js k e n.1 l.3),
)

pub linked_walk : (es : List Entry) (h : ℕ) (ks : List ℕ) (f : ℕ) → Linked es h ks → length ks ≤ f → (walk es f h ≡ ks) × (stop es f h ≡ 0)
unfolding walk stop
linked_walk es h [] zero l b = (refl, l)
linked_walk es h [] (suc f) l b = (cond-true _ _ _ (eq-eqb h 0 l), cond-true _ _ _ (eq-eqb h 0 l))
linked_walk es h (k ∷ ks) zero l b = absurd (omega arith)
linked_walk es h (k ∷ ks) (suc f) l b =
    let first : h ≡ k = l.0 in
    let some : 1 ≤ k = l.1 in
    let t = ne_eqb h 0 (λ z. omega arith) in
    let more = linked_walk es (entry es k).next ks f l.3 (omega arith) in (
      cond-false _ _ _ t ∙ ap (λ x. x ∷ walk es f (entry es x).next) first ∙ ap (λ w. k ∷ w) more.0,
      cond-false _ _ _ t ∙ ap (λ x. stop es f (entry es x).next) first ∙ more.1,
    )

pub walk_linked : (es : List Entry) (f h : ℕ) → stop es f h ≡ 0 → AllByRecursion (λ k. k ≤ length es) (walk es f h) → Linked es h (walk es f h)
unfolding walk stop
walk_linked es zero h s a = s
walk_linked es (suc f) h s a =
    ⊎_elim
    (λ (t : eqb h 0 ≡ true).
    subst (Linked es h) (sym (cond-true _ [] (h ∷ walk es f (entry es h).next) t)) (eqb-true h 0 t))
    (λ (t : eqb h 0 ≡ false).
    let w : cond (eqb h 0) [] (h ∷ walk es f (entry es h).next) ≡ h ∷ walk es f (entry es h).next = cond-false _ _ _ t in
    let a' : AllByRecursion (λ k. k ≤ length es) (h ∷ walk es f (entry es h).next) = subst (AllByRecursion (λ k. k ≤ length es)) w a in
    let s' : stop es f (entry es h).next ≡ 0 = sym (cond-false _ 0 (stop es f (entry es h).next) t) ∙ s in
    let some : h ≡ 0 → ⊥ = eqb-false h 0 t in
    subst (Linked es h) (sym w) (refl, omega arith, a'.0, walk_linked es f (entry es h).next s' a'.1))
    (cases_Bool (eqb h 0))

-- ---- no record stands in a chain twice
pub linked_lengths : (es : List Entry) (h : ℕ) (xs ys : List ℕ) → Linked es h xs → Linked es h ys → length xs ≡ length ys
linked_lengths es h [] [] l m = refl
linked_lengths es h [] (y ∷ ys) l m = let a = m.0 in let b = m.1 in absurd (omega arith)
linked_lengths es h (x ∷ xs) [] l m = let a = l.0 in let b = l.1 in absurd (omega arith)
linked_lengths es h (x ∷ xs) (y ∷ ys) l m =
    let e : y ≡ x = sym m.0 ∙ l.0 in
    ap suc (linked_lengths es (entry es x).next xs ys l.3 (subst (λ z. Linked es (entry es z).next ys) e m.3))

pub not_again : (es : List Entry) (k : ℕ) (zs : List ℕ) → Linked es k zs → (h : ℕ) (ks : List ℕ) → Linked es h ks → length ks < length zs → Not k ks
not_again es k zs z h [] l b = tt
not_again es k zs z h (j ∷ js) l b = (
  λ e. let m : Linked es k (j ∷ js) = subst (λ x. Linked es x (j ∷ js)) (l.0 ∙ e) l in omega (arith, linked_lengths es k zs (j ∷ js) z m),
  not_again es k zs z (entry es j).next js l.3 (omega arith),
)

pub fresh : (es : List Entry) (h k : ℕ) (ks : List ℕ) → Linked es h (k ∷ ks) → Not k ks
fresh es h k ks l = not_again es k (k ∷ ks) (refl, l.1, l.2, l.3) (entry es k).next ks l.3 (omega arith)

pub linked_from : (es : List Entry) (h : ℕ) (xs : List ℕ) (k : ℕ) (ys : List ℕ) → Linked es h (xs ++ k ∷ ys) → Linked es k (k ∷ ys)
linked_from es h [] k ys l = (refl, l.1, l.2, l.3)
linked_from es h (x ∷ xs) k ys l = linked_from es (entry es x).next xs k ys l.3

pub fresh_before : (es : List Entry) (h : ℕ) (xs : List ℕ) (k : ℕ) (ys : List ℕ) → Linked es h (xs ++ k ∷ ys) → Not k xs
fresh_before es h [] k ys l = tt
fresh_before es h (x ∷ xs) k ys l =
    let f = all_right (λ j. j ≡ x → ⊥) xs (k ∷ ys) (fresh es h x (xs ++ k ∷ ys) l) in
    (λ e. f.0 (sym e), fresh_before es (entry es x).next xs k ys l.3)

-- ---- a record is taken out of the middle
pub linked_bridge : (es : List Entry) (h : ℕ) (xs : List ℕ) (b k : ℕ) (ks : List ℕ) (e : Entry) → e.next ≡ (entry es k).next → Linked es h (xs ++ b ∷ k ∷ ks) → Linked (put es b e) h (xs ++ b ∷ ks)
linked_bridge es h [] b k ks e n l =
    let f = fresh es h b (k ∷ ks) l in
    let there = entry_put_same es b e l.1 l.2 in (
      l.0,
      l.1,
      omega (arith, l.2, length_put es b e),
      subst (λ x. Linked (put es b e) x ks) (sym (ap (λ (x : Entry). x.next) there ∙ n))
          (linked_frame es (entry es k).next ks b e f.1 l.3.3),
    )
linked_bridge es h (x ∷ xs) b k ks e n l =
    let f = all_right (λ j. j ≡ x → ⊥) xs (b ∷ k ∷ ks) (fresh es h x (xs ++ b ∷ k ∷ ks) l) in (
      l.0,
      l.1,
      omega (arith, l.2, length_put es b e),
      subst (λ (y : Entry). Linked (put es b e) y.next (xs ++ b ∷ ks)) (sym (entry_put_other es b x e (λ q. f.0 (sym q))))
          (linked_bridge es (entry es x).next xs b k ks e n l.3),
    )

-- ---- a chain's end and start
pub linked_suffix : (es : List Entry) (h : ℕ) (xs ys : List ℕ) → Linked es h (xs ++ ys) → (m : ℕ) × Linked es m ys
linked_suffix es h [] ys l = (h, l)
linked_suffix es h (x ∷ xs) ys l = linked_suffix es (entry es x).next xs ys l.3

pub linked_start : (es fs : List Entry) (h m : ℕ) (ks : List ℕ) → Linked es h ks → Linked fs m ks → h ≡ m
linked_start es fs h m [] l r = l ∙ sym r
linked_start es fs h m (k ∷ ks) l r = l.0 ∙ sym r.0

pub linked_range : (es : List Entry) (h : ℕ) (ks : List ℕ) → Linked es h ks → AllByRecursion (λ k. k ≤ length es) ks
linked_range es h [] l = tt
linked_range es h (k ∷ ks) l = (l.2, linked_range es (entry es k).next ks l.3)
