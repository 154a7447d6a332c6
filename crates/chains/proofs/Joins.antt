-- Lists of chains joined to one list, and pairs put in the middle of a list. Assumes nothing.
use Rattle.std.proofs.Common.{◌≡◌, ℕ, zero, suc, ◌+◌, ◌<◌, ◌≤◌, Bool, true, false, cond, not, eqb, ◌⊎◌, List, [], ◌∷◌, ◌++◌, map, filter, sym, refl, ap, ◌∙◌, subst, inl, inr, ⊎_elim, arith}
use Rattle.std.specs.List.{range_with_len, flat_map, ContainsAt as Has, AllByRecursion}
use Rattle.std.proofs.lemmas.Bool.{cases_eq}
use Rattle.std.proofs.lemmas.List.{append_assoc, map-append}
use Rattle.std.proofs.lemmas.List.Elements.{filter-append}
use Rattle.std.proofs.ByRecursion.{All-append, all-has, All-map, has_append_left, has_append_right}
use Rattle.book.specs.Meaning.{Pair, Apart, others}
use Rattle.book.proofs.Sets.{has_here, has_there, has_cases, apart_rest, apart_head, apart_cons}

-- ---- lists joined
pub joined_agree : (f g : ℕ → List ℕ) (a n : ℕ) → ((d : ℕ) → a ≤ d → d < a + n → f d ≡ g d) → flat_map f (range_with_len a n) ≡ flat_map g (range_with_len a n)
joined_agree f g a zero s = refl
joined_agree f g a (suc n) s =
    let here = s a (omega arith) (omega arith) in
    let rest = joined_agree f g (a + 1) n (λ d lo hi. s d (omega arith) (omega arith)) in
    cc

-- a list of joined lists with another one in one place
pub split : (ls : ℕ → List ℕ) (a n c : ℕ) → a ≤ c → c < a + n
    → (A : List ℕ) × (B : List ℕ) × ((ms : ℕ → List ℕ) → ((d : ℕ) → a ≤ d → d < a + n → (d ≡ c → ⊥) → ms d ≡ ls d) → flat_map ms (range_with_len a n) ≡ A ++ (ms c ++ B))
split ls a zero c lo hi = absurd (omega arith)
split ls a (suc n) c lo hi =
    ⊎_elim
    (λ (e : a ≡ c). (
      [],
      flat_map ls (range_with_len (a + 1) n),
      λ ms same.
          let rest = joined_agree ms ls (a + 1) n (λ d low high. same d (omega arith) (omega arith) (λ q. omega arith)) in
          let first = ap ms e in
          cc,
    ))
    (λ (ne : a ≡ c → ⊥).
    let more = split ls (a + 1) n c (omega arith) (omega arith) in (
      ls a ++ more.0,
      more.1,
      λ ms same.
          let rest = more.2 ms (λ d low high. same d (omega arith) (omega arith)) in
          let first = same a (omega arith) (omega arith) ne in
          let whole = append_assoc (ls a) more.0 (ms c ++ more.1) in
          cc,
    ))
    (cases_eq a c)

pub all_joined : (P : ℕ → Type 0) (ls : ℕ → List ℕ) (a n : ℕ) → ((d : ℕ) → a ≤ d → d < a + n → AllByRecursion P (ls d)) → AllByRecursion P (flat_map ls (range_with_len a n))
all_joined P ls a zero h = tt
all_joined P ls a (suc n) h =
    All-append P (ls a) (flat_map ls (range_with_len (a + 1) n)) (h a (omega arith) (omega arith)) (all_joined P ls (a + 1) n (λ d lo hi. h d (omega arith) (omega arith)))

pub map_same : (f g : ℕ → Pair) (ks : List ℕ) → AllByRecursion (λ j. g j ≡ f j) ks → map g ks ≡ map f ks
map_same f g [] a = refl
map_same f g (k ∷ ks) a = let e = a.0 in let r = map_same f g ks a.1 in cc

pub others_map : (f : ℕ → Pair) (e : ℕ) (ks : List ℕ) → others e (map f ks) ≡ map f (filter (λ k. not (eqb (f k).0 e)) ks)
others_map f e [] = refl
others_map f e (k ∷ ks) =
    let r = others_map f e ks in
    elim (not (eqb (f k).0 e)) as (λ b. cond b (f k ∷ others e (map f ks)) (others e (map f ks)) ≡ map f (cond b (k ∷ filter (λ j. not (eqb (f j).0 e)) ks) (filter (λ j. not (eqb (f j).0 e)) ks)))
    [ true ↦ ap (λ w. f k ∷ w) r | false ↦ r ]

pub kept_same : (t u : ℕ → Bool) (ks : List ℕ) → AllByRecursion (λ k. u k ≡ t k) ks → filter u ks ≡ filter t ks
kept_same t u [] a = refl
kept_same t u (k ∷ ks) a = let e = a.0 in let r = kept_same t u ks a.1 in cc

-- the pairs that pass, list by list
pub joined_others : (f : ℕ → Pair) (e : ℕ) (ls ms : ℕ → List ℕ) (a n : ℕ)
    → ((d : ℕ) → a ≤ d → d < a + n → map f (ms d) ≡ others e (map f (ls d)))
    → map f (flat_map ms (range_with_len a n)) ≡ others e (map f (flat_map ls (range_with_len a n)))
joined_others f e ls ms a zero s = refl
joined_others f e ls ms a (suc n) s =
    let here = s a (omega arith) (omega arith) in
    let rest = joined_others f e ls ms (a + 1) n (λ d lo hi. s d (omega arith) (omega arith)) in
    map-append f (ms a) (flat_map ms (range_with_len (a + 1) n))
    ∙ ap (λ w. w ++ map f (flat_map ms (range_with_len (a + 1) n))) here
    ∙ ap (λ w. others e (map f (ls a)) ++ w) rest
    ∙ sym (filter-append (λ p. not (eqb p.0 e)) (map f (ls a)) (map f (flat_map ls (range_with_len (a + 1) n))))
    ∙ ap (others e) (sym (map-append f (ls a) (flat_map ls (range_with_len (a + 1) n))))

-- ---- members
pub has_append_cases : (xs ys : List Pair) (q : Pair) → Has (xs ++ ys) q → Has xs q ⊎ Has ys q
has_append_cases [] ys q h = inr h
has_append_cases (x ∷ xs) ys q h =
    ⊎_elim
    (λ (e : x ≡ q). inl (subst (Has (x ∷ xs)) e (has_here x xs)))
    (λ (r : Has (xs ++ ys) q). ⊎_elim (λ (l : Has xs q). inl (has_there x xs q l)) (λ (l : Has ys q). inr l) (has_append_cases xs ys q r))
    (has_cases x (xs ++ ys) q h)

pub inserted_cases : (A B : List Pair) (p q : Pair) → Has (A ++ p ∷ B) q → Has (A ++ B) q ⊎ (q ≡ p)
inserted_cases A B p q h =
    ⊎_elim
    (λ (l : Has A q). inl (has_append_left A B q l))
    (λ (r : Has (p ∷ B) q). ⊎_elim (λ (e : p ≡ q). inr (sym e)) (λ (l : Has B q). inl (has_append_right A B q l)) (has_cases p B q r))
    (has_append_cases A (p ∷ B) q h)

pub inserted_has : (A B : List Pair) (p q : Pair) → Has (A ++ B) q ⊎ (q ≡ p) → Has (A ++ p ∷ B) q
inserted_has A B p q (inl h) =
    ⊎_elim
    (λ (l : Has A q). has_append_left A (p ∷ B) q l)
    (λ (r : Has B q). has_append_right A (p ∷ B) q (has_there p B q r))
    (has_append_cases A B q h)
inserted_has A B p q (inr e) = subst (Has (A ++ p ∷ B)) (sym e) (has_append_right A (p ∷ B) p (has_here p B))

pub apart_insert : (A B : List Pair) (p : Pair) → Apart (A ++ B) → (Has (A ++ B) p → ⊥) → Apart (A ++ p ∷ B)
apart_insert [] B p apart new = apart_cons p B apart new
apart_insert (x ∷ A) B p apart new =
    apart_cons x (A ++ p ∷ B)
    (apart_insert A B p (apart_rest x (A ++ B) apart) (λ h. new (has_there x (A ++ B) p h)))
    (λ h. ⊎_elim
    (λ (r : Has (A ++ B) x). apart_head x (A ++ B) apart r)
    (λ (e : x ≡ p). new (subst (Has (x ∷ (A ++ B))) e (has_here x (A ++ B))))
    (inserted_cases A B p x h))

-- a pair is looked for in its own list alone
pub has_own : (f : ℕ → Pair) (own : Pair → ℕ) (ls : ℕ → List ℕ) (a n : ℕ) (q : Pair)
    → ((d : ℕ) → a ≤ d → d < a + n → AllByRecursion (λ k. own (f k) ≡ d) (ls d))
    → Has (map f (flat_map ls (range_with_len a n))) q → Has (map f (ls (own q))) q
has_own f own ls a zero q placed h = absurd (omega (arith, h.1))
has_own f own ls a (suc n) q placed h =
    ⊎_elim
    (λ (l : Has (map f (ls a)) q).
    let e : own q ≡ a = all-has (λ p. own p ≡ a) (map f (ls a)) q (All-map (λ p. own p ≡ a) f (ls a) (placed a (omega arith) (omega arith))) l in
    subst (λ d. Has (map f (ls d)) q) (sym e) l)
    (λ (r : Has (map f (flat_map ls (range_with_len (a + 1) n))) q).
    has_own f own ls (a + 1) n q (λ d lo hi. placed d (omega arith) (omega arith)) r)
    (has_append_cases (map f (ls a)) (map f (flat_map ls (range_with_len (a + 1) n))) q
    (subst (λ w. Has w q) (map-append f (ls a) (flat_map ls (range_with_len (a + 1) n))) h))

pub own_has : (f : ℕ → Pair) (ls : ℕ → List ℕ) (a n c : ℕ) (q : Pair) → a ≤ c → c < a + n → Has (map f (ls c)) q → Has (map f (flat_map ls (range_with_len a n))) q
own_has f ls a n c q lo hi h =
    let s = split ls a n c lo hi in
    let e = s.2 ls (λ d _ _ _. refl) in
    subst (λ w. Has w q)
    (sym (ap (map f) e ∙ map-append f s.0 (ls c ++ s.1) ∙ ap (λ w. map f s.0 ++ w) (map-append f (ls c) s.1)))
    (has_append_right (map f s.0) (map f (ls c) ++ map f s.1) q (has_append_left (map f (ls c)) (map f s.1) q h))

pub apart_remove : (A B : List Pair) (p : Pair) → Apart (A ++ p ∷ B) → Apart (A ++ B)
apart_remove [] B p apart = apart_rest p B apart
apart_remove (x ∷ A) B p apart =
    apart_cons x (A ++ B) (apart_remove A B p (apart_rest x (A ++ p ∷ B) apart))
    (λ h. apart_head x (A ++ p ∷ B) apart (inserted_has A B p x (inl h)))

-- what holds of each pair holds where the pairs are the same
pub all_pairs : (P : Pair → Type 0) (f g : ℕ → Pair) (ks : List ℕ) → AllByRecursion (λ j. g j ≡ f j) ks → AllByRecursion (λ j. P (f j)) ks → AllByRecursion (λ j. P (g j)) ks
all_pairs P f g [] s a = tt
all_pairs P f g (k ∷ ks) s a = (subst P (sym s.0) a.0, all_pairs P f g ks s.1 a.1)

pub all_both : {X : Type 0} (P Q R : X → Type 0) (xs : List X) → ((x : X) → P x → Q x → R x) → AllByRecursion P xs → AllByRecursion Q xs → AllByRecursion R xs
all_both P Q R [] f a b = tt
all_both P Q R (x ∷ xs) f a b = (f x a.0 b.0, all_both P Q R xs f a.1 b.1)
