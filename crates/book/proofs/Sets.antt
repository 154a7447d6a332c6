-- Lists without repetition: one pair more, some pairs fewer, and that two of them with the same
-- members are equally long. Assumes nothing.
use Rattle.std.proofs.Common.{◌≡◌, ℕ, zero, suc, ◌+◌, ◌-◌, ◌<◌, ◌≤◌, Bool, true, false, cond, ◌⊎◌, List, [], ◌∷◌, ◌++◌, length, get_or, filter, sym, refl, ◌∙◌, subst, inl, inr, ⊎_elim, arith}
use Rattle.std.specs.List.{ContainsAt as Has, remove}
use Rattle.std.proofs.lemmas.Bool.{cases_order, cases_lt}
use Rattle.std.proofs.lemmas.List.{get_or_default, get_or_append_left, get_or_push, length_push}
use Rattle.std.proofs.lemmas.List.Edits.{length-remove, get_or-remove_below, get_or-remove_above}
use Rattle.std.proofs.ByRecursion.{has_get_or, all-has, all_kept_by, all_has_itself, kept_by_passes}
use Rattle.book.specs.Meaning.{Pair, Apart}

-- ---- members
pub has_here : (p : Pair) (ps : List Pair) → Has (p ∷ ps) p
has_here p ps = (0, omega arith, λ d. refl)

pub has_there : (p : Pair) (ps : List Pair) (q : Pair) → Has ps q → Has (p ∷ ps) q
has_there p ps q h = (suc h.0, omega (arith, h.1), h.2)

pub has_cases : (p : Pair) (ps : List Pair) (q : Pair) → Has (p ∷ ps) q → (p ≡ q) ⊎ Has ps q
has_cases p ps q (zero, l, e) = inl (e q)
has_cases p ps q (suc k, l, e) = inr (k, omega (arith, l), e)

pub has_none : (ps : List Pair) → ((q : Pair) → Has ps q → ⊥) → length ps ≡ 0
has_none [] none = refl
has_none (p ∷ ps) none = absurd (none p (has_here p ps))

-- ---- no pair twice
pub apart_rest : (p : Pair) (ps : List Pair) → Apart (p ∷ ps) → Apart ps
apart_rest p ps apart i j d h = apart (suc i) (suc j) d (omega (arith, h.0), omega (arith, h.1), h.2)

pub apart_head : (p : Pair) (ps : List Pair) → Apart (p ∷ ps) → Has ps p → ⊥
apart_head p ps apart h = apart 0 (suc h.0) p (omega arith, omega (arith, h.1), sym (h.2 p))

pub apart_cons : (p : Pair) (ps : List Pair) → Apart ps → (Has ps p → ⊥) → Apart (p ∷ ps)
apart_cons p ps apart new i zero d h = absurd (let b = h.0 in omega arith)
apart_cons p ps apart new zero (suc j) d h = new (j, omega (arith, h.1), λ d'. get_or_default ps j d' d (omega (arith, h.1)) ∙ sym h.2)
apart_cons p ps apart new (suc i) (suc j) d h = apart i j d (omega (arith, h.0), omega (arith, h.1), h.2)

pub apart_none : Apart []
apart_none i j d h = absurd (omega (arith, h.1))

pub apart_push : (ps : List Pair) (p : Pair) → Apart ps → (Has ps p → ⊥) → Apart (ps ++ p ∷ [])
apart_push ps p apart new i j d (lt, within, e) =
    let long : j < length ps + 1 = omega (arith, length_push ps p) in
    let left = get_or_append_left ps (p ∷ []) d i (omega arith) in
    ⊎_elim
    (λ (b : j < length ps). apart i j d (lt, b, sym left ∙ e ∙ get_or_append_left ps (p ∷ []) d j b))
    (λ (b : length ps ≤ j).
    let last = get_or_push ps p d j (omega arith) in
    new (subst (Has ps) (sym left ∙ e ∙ last) (has_get_or ps i d (omega arith))))
    (cases_lt j (length ps))

-- ---- those that pass a test
pub has_kept : (t : Pair → Bool) (ps : List Pair) (p : Pair) → Has (filter t ps) p → Has ps p
has_kept t ps p h = all-has (Has ps) (filter t ps) p (all_kept_by t (Has ps) ps (all_has_itself ps)) h

pub passes_kept : (t : Pair → Bool) (ps : List Pair) (p : Pair) → Has (filter t ps) p → t p ≡ true
passes_kept t ps p h = all-has (λ x. t x ≡ true) (filter t ps) p (kept_by_passes t ps) h

pub kept_has : (t : Pair → Bool) (ps : List Pair) (p : Pair) → t p ≡ true → Has ps p → Has (filter t ps) p
kept_has t [] p pass h = h
kept_has t (x ∷ ps) p pass h =
    ⊎_elim
    (λ (e : x ≡ p).
    let b : t x ≡ true = subst (λ y. t y ≡ true) (sym e) pass in
    subst (λ c. Has (cond c (x ∷ filter t ps) (filter t ps)) p) (sym b) (subst (λ y. Has (x ∷ filter t ps) y) e (has_here x (filter t ps))))
    (λ (k : Has ps p).
    let rest = kept_has t ps p pass k in
    elim (t x) as (λ c. Has (cond c (x ∷ filter t ps) (filter t ps)) p) [ true ↦ has_there x (filter t ps) p rest | false ↦ rest ])
    (has_cases x ps p h)

pub apart_kept : (t : Pair → Bool) (ps : List Pair) → Apart ps → Apart (filter t ps)
apart_kept t [] apart = apart
apart_kept t (p ∷ ps) apart =
    let rest = apart_kept t ps (apart_rest p ps apart) in
    elim (t p) as (λ b. Apart (cond b (p ∷ filter t ps) (filter t ps)))
    [ true ↦ apart_cons p (filter t ps) rest (λ h. apart_head p ps apart (has_kept t ps p h)) | false ↦ rest ]

-- ---- how long
has_removed : (ps : List Pair) (k : ℕ) (p q : Pair) → k < length ps → ((d : Pair) → get_or ps k d ≡ p) → (p ≡ q → ⊥) → Has ps q → Has (remove ps k) q
has_removed ps k p q inside at other (j, l, e) =
    let long = length-remove ps k inside in
    ⊎_elim
    (λ (same : j ≡ k). absurd (other (sym (at q) ∙ subst (λ i. get_or ps i q ≡ q) same (e q))))
    (⊎_elim
    (λ (lo : j < k). (j, omega arith, λ d. get_or-remove_below ps k d j lo inside ∙ e d))
    (λ (hi : k < j).
    let back : j - 1 + 1 ≡ j = omega arith in
    (j - 1, omega arith, λ d. get_or-remove_above ps k d (j - 1) (omega arith) inside ∙ subst (λ i. get_or ps i d ≡ q) (sym back) (e d))))
    (cases_order j k)

-- a list without repetition is no longer than one that has all its members
pub length_within : (ps qs : List Pair) → Apart ps → ((q : Pair) → Has ps q → Has qs q) → length ps ≤ length qs
length_within [] qs apart sub = omega arith
length_within (p ∷ ps) qs apart sub =
    let h = sub p (has_here p ps) in
    let fewer = length_within ps (remove qs h.0) (apart_rest p ps apart)
    (λ q k. has_removed qs h.0 p q h.1 h.2 (λ e. apart_head p ps apart (subst (Has ps) (sym e) k)) (sub q (has_there p ps q k))) in
    omega (arith, length-remove qs h.0 h.1)

pub length_same : (ps qs : List Pair) → Apart ps → Apart qs → ((q : Pair) → Has ps q → Has qs q) → ((q : Pair) → Has qs q → Has ps q) → length ps ≡ length qs
length_same ps qs a b to from =
    let lo = length_within ps qs a to in
    let hi = length_within qs ps b from in
    omega arith
