-- A station holds what its history says: the keys of the open epochs, the highest epoch, and the pairs in use.
use Rattle.std.proofs.Common.{◌≡◌, ℕ, ◌+◌, ◌-◌, ◌<◌, ◌≤◌, max, Bool, true, false, cond, eqb, List, [], ◌∷◌, length, Some, None, Ok, filter, Option, sym, refl, ap, ◌∙◌, subst, inl, inr, ⊎_elim, arith}
use native.Mathlib.Nat.{le-max_left, le-max_right, max-eq_left}
use Rattle.std.proofs.lemmas.Bool.{eqb-true, eq-eqb, ne_eqb}
use Rattle.std.specs.List.{ContainsAt as Has, AllByRecursion}
use Rattle.ring.specs.declared.Epoch.{Epoch}
use Rattle.ring.specs.Places.{Place, key_in, closed, taken, full}
use Rattle.ring.proofs.Laws.{ring_laws}
use Rattle.book.specs.Meaning.{Pair, Meaning, In, size_of, Alike, Cleared, Marked, Dropped}
use Rattle.book.proofs.Sets.{has_here, has_there, has_cases, has_kept, passes_kept, kept_has, apart_none, apart_cons, apart_kept}
use Rattle.book.proofs.Facts.{size_counts}
use Rattle.history.specs.History.{present}
use Rattle.history.proofs.Steps.{false_true, none_some}
use Rattle.history.specs.Kept.{times, in_use, Tied}
use Rattle.history.proofs.Places.{none_times, found_times, times_taken, times_closed, fewer, length_taken, length_closed}

-- ---- lists that a test keeps
kept_alike : (f g : Pair → Bool) (ps : List Pair) → AllByRecursion (λ p. f p ≡ g p) ps → filter f ps ≡ filter g ps
kept_alike f g [] a = refl
kept_alike f g (p ∷ ps) a = (λ i. cond (a.0 i) (p ∷ kept_alike f g ps a.1 i) (kept_alike f g ps a.1 i))

all_more : (P Q : Pair → Type 0) (ps : List Pair) → ((p : Pair) → P p → Q p) → AllByRecursion P ps → AllByRecursion Q ps
all_more P Q [] f a = tt
all_more P Q (p ∷ ps) f a = (f p a.0, all_more P Q ps f a.1)

split_lengths : (f g e : Pair → Bool) (ps : List Pair) → ((p : Pair) → cond (f p) 1 0 ≡ cond (e p) 1 0 + cond (g p) 1 0) →
    length (filter f ps) ≡ length (filter e ps) + length (filter g ps)
split_lengths f g e [] h = refl
split_lengths f g e (p ∷ ps) h =
    let ih = split_lengths f g e ps h in
    let one = h p in
    let P : Bool → Bool → Bool → Type 0 = λ a b c. ◌≡◌ {A = ℕ} (cond a 1 0) (cond b 1 0 + cond c 1 0) →
    length (cond a (p ∷ filter f ps) (filter f ps)) ≡ length (cond b (p ∷ filter e ps) (filter e ps)) + length (cond c (p ∷ filter g ps) (filter g ps)) in
    elim (f p) as (λ a. P a (e p) (g p)) [
      | true ↦ (elim (e p) as (λ b. P true b (g p)) [
        | true ↦ (elim (g p) as (P true true) [ true ↦ (λ z. absurd (omega arith)) | false ↦ (λ z. omega arith) ])
        | false ↦ (elim (g p) as (P true false) [ true ↦ (λ z. omega arith) | false ↦ (λ z. absurd (omega arith)) ])
      ])
      | false ↦ (elim (e p) as (λ b. P false b (g p)) [
        | true ↦ (elim (g p) as (P false true) [ true ↦ (λ z. absurd (omega arith)) | false ↦ (λ z. absurd (omega arith)) ])
        | false ↦ (elim (g p) as (P false false) [ true ↦ (λ z. absurd (omega arith)) | false ↦ (λ z. omega arith) ])
      ])
    ] one

module _ {K : Type 0} (capacity : ℕ) where
  module _ {key : ℕ → Option K} {number high : ℕ} {done : List Pair} {ps : List (Place K)} {latest : ℕ} {b : Meaning} (t : Tied capacity key number high done ps latest b) where
    -- the size of the book is the number of pairs in use
    pub sized : size_of b ≡ length (in_use key done)
    sized = size_counts b (in_use key done) (apart_kept (λ p. present (key p.0)) done t.apart) (λ q. ((t.these q).1, (t.these q).0))

    -- a book of the same set and capacity
    pub tied_alike : (b' : Meaning) → Alike b b' → Tied capacity key number high done ps latest b'
    tied_alike b' a = record {
      keys = t.keys;
      single = t.single;
      number_is = t.number_is;
      four = t.four;
      high_is = t.high_is;
      these = λ q. (λ h. (t.these q).0 ((a.these q).0 h), λ h. (a.these q).1 ((t.these q).1 h));
      apart = t.apart;
      room = a.room ∙ t.room;
      below = t.below;
      bound = t.bound;
    }

    -- ---- one epoch more
    key_none : (e : ℕ) → high < e → (o : Option K) → key e ≡ o → key e ≡ None
    key_none e up None p = p
    key_none e up (Some k) p = let low = t.bound e k p in absurd (omega arith)

    pub tied_opens : (e : ℕ) (k : K) (told : Option K) → told ≡ Some k → high < e → full ps ≡ false →
        Tied capacity (λ x. cond (eqb e x) told (key x)) (number + 1) (max e high) done (taken (record { number = e; key = k }) ps) e b
    tied_opens e k told is up free =
        let x : Epoch K = record { number = e; key = k } in
        let laws = ring_laws K in
        let none : key_in ps e ≡ None = t.keys e ∙ key_none e up (key e) refl in
        let same : AllByRecursion (λ p. present (key p.0) ≡ present (cond (eqb e p.0) told (key p.0))) done =
        all_more (λ p. p.0 ≤ high) (λ p. present (key p.0) ≡ present (cond (eqb e p.0) told (key p.0))) done
        (λ p h. let other : eqb e p.0 ≡ false = ne_eqb e p.0 (λ q. omega arith) in sym (ap (λ c. present (cond c told (key p.0))) other)) t.below in
        let kept = kept_alike (λ p. present (key p.0)) (λ p. present (cond (eqb e p.0) told (key p.0))) done same in
        record {
          keys = λ f.
              let P : Bool → Type 0 = λ c. eqb e f ≡ c → key_in (taken x ps) f ≡ cond c told (key f) in
              elim (eqb e f) as P [
                | true ↦ (λ q. subst (λ (y : ℕ). key_in (taken x ps) y ≡ told) (eqb-true e f q) (laws.opened ps x free none ∙ sym is))
                | false ↦ (λ q. laws.others_opened ps x f (λ z. false_true (sym q ∙ eq-eqb e f (sym z))) ∙ t.keys f)
              ] refl;
          single = λ f.
              let more = times_taken f x ps in
              let P : Bool → Type 0 = λ c. eqb e f ≡ c → times f (taken x ps) ≤ times f ps + cond c 1 0 → times f (taken x ps) ≤ 1 in
              elim (eqb e f) as P [
                | true ↦ (λ q z. let none_here = none_times f ps (subst (λ (y : ℕ). key_in ps y ≡ None) (eqb-true e f q) none) in omega arith)
                | false ↦ (λ q z. let one = t.single f in omega arith)
              ] refl more;
          number_is = laws.one_more ps x free ∙ (let n = t.number_is in omega arith);
          four = length_taken x ps ∙ t.four;
          high_is = sym (max-eq_left (let u = up in omega arith));
          these = λ q. (λ h. subst (λ l. Has l q) kept ((t.these q).0 h), λ h. (t.these q).1 (subst (λ l. Has l q) (sym kept) h));
          apart = t.apart;
          room = t.room;
          below = all_more (λ p. p.0 ≤ high) (λ p. p.0 ≤ max e high) done (λ p h. let g = le-max_right e high in omega arith) t.below;
          bound = λ f j q.
              let P : Bool → Type 0 = λ c. eqb e f ≡ c → cond c told (key f) ≡ Some j → f ≤ max e high in
              elim (eqb e f) as P [
                | true ↦ (λ z _. let g = le-max_left e high in let same-one = eqb-true e f z in omega arith)
                | false ↦ (λ z w. let g = le-max_right e high in let low = t.bound f j w in omega arith)
              ] refl q;
        }

    -- ---- one epoch fewer
    module _ (e n : ℕ) (k : K) (found : key e ≡ Some k) (b' : Meaning) (d : Dropped b e n b') where
      abbrev later : ℕ → Option K
      later x = cond (eqb e x) None (key x)

      one_place : times e ps ≡ 1
      one_place = let least = found_times e ps k (t.keys e ∙ found) in let most = t.single e in omega arith

      still : (q : Pair) → Has (in_use key done) q → (q.0 ≡ e → ⊥) → Has (in_use later done) q
      still q h ne =
          let passes = passes_kept (λ p. present (key p.0)) done q h in
          let other : eqb e q.0 ≡ false = ne_eqb e q.0 (λ z. ne (sym z)) in
          kept_has (λ p. present (later p.0)) done q (ap (λ c. present (cond c None (key q.0))) other ∙ passes) (has_kept (λ p. present (key p.0)) done q h)

      before_then : (q : Pair) → Has (in_use later done) q → Has (in_use key done) q × (q.0 ≡ e → ⊥)
      before_then q h =
          let passes = passes_kept (λ p. present (later p.0)) done q h in
          let P : Bool → Type 0 = λ c. eqb e q.0 ≡ c → present (cond c None (key q.0)) ≡ true → (present (key q.0) ≡ true) × (q.0 ≡ e → ⊥) in
          let both = elim (eqb e q.0) as P [
            | true ↦ (λ z w. false_true w)
            | false ↦ (λ z w. (w, λ s. false_true (sym z ∙ eq-eqb e q.0 (sym s))))
          ] refl passes in
          (kept_has (λ p. present (key p.0)) done q both.0 (has_kept (λ p. present (later p.0)) done q h), both.1)

      pub tied_closes : Tied capacity later (number - 1) high done (closed e ps) latest b'
      tied_closes =
          let laws = ring_laws K in
          record {
            keys = λ f.
                let P : Bool → Type 0 = λ c. eqb e f ≡ c → key_in (closed e ps) f ≡ cond c None (key f) in
                elim (eqb e f) as P [
                  | true ↦ (λ q. subst (λ (y : ℕ). key_in (closed e ps) y ≡ None) (eqb-true e f q) (laws.closed_one ps e))
                  | false ↦ (λ q. laws.others_closed ps e f (λ z. false_true (sym q ∙ eq-eqb e f (sym z))) ∙ t.keys f)
                ] refl;
            single = λ f. let less = times_closed e f ps in let one = t.single f in omega arith;
            number_is = let a = fewer e ps in let o = one_place in let c = t.number_is in omega arith;
            four = length_closed e ps ∙ t.four;
            high_is = t.high_is;
            these = λ q. (
              (λ h. let x = (d.0.these q).0 h in still q ((t.these q).0 x.0) x.1),
              λ h. let x = before_then q h in (d.0.these q).1 ((t.these q).1 x.0, x.1),
            );
            apart = t.apart;
            room = d.0.room ∙ t.room;
            below = t.below;
            bound = λ f j q.
                let P : Bool → Type 0 = λ c. cond c None (key f) ≡ Some j → f ≤ high in
                elim (eqb e f) as P [ true ↦ (λ w. none_some w) | false ↦ (λ w. t.bound f j w) ] q;
          }

      shares : (p : Pair) → cond (present (key p.0)) 1 0 ≡ cond (eqb p.0 e) 1 0 + cond (present (later p.0)) 1 0
      shares p =
          let P : Bool → Type 0 = λ c. eqb e p.0 ≡ c → ◌≡◌ {A = ℕ} (cond (present (key p.0)) 1 0) (cond (eqb p.0 e) 1 0 + cond (present (cond c None (key p.0))) 1 0) in
          elim (eqb e p.0) as P [
            | true ↦ (λ z.
                let same = eqb-true e p.0 z in
                let here : present (key p.0) ≡ true = ap (λ (y : ℕ). present (key y)) (sym same) ∙ ap present found in
                let this : eqb p.0 e ≡ true = eq-eqb p.0 e (sym same) in
                rw (here, this) refl)
            | false ↦ (λ z.
                let other : eqb p.0 e ≡ false = ne_eqb p.0 e (λ s. false_true (sym z ∙ eq-eqb e p.0 (sym s))) in
                rw other (omega arith))
          ] refl

      -- how many were dropped
      pub dropped_is : n ≡ length (filter (λ p. eqb p.0 e) done)
      dropped_is =
          let left = size_counts b' (in_use later done) (apart_kept (λ p. present (later p.0)) done t.apart) (λ q. ((tied_closes.these q).1, (tied_closes.these q).0)) in
          let whole = split_lengths (λ p. present (key p.0)) (λ p. present (later p.0)) (λ p. eqb p.0 e) done shares in
          let was = sized in
          let sum = d.1 in omega arith

    -- ---- one pair more
    pub tied_accepts : (p : Pair) (k : K) → key p.0 ≡ Some k → (b' : Meaning) → Marked b p (Ok tt) b' → Tied capacity key number high (p ∷ done) ps latest b'
    tied_accepts p k found b' d =
        let f : Pair → Bool = λ x. present (key x.0) in
        let here : f p ≡ true = ap present found in
        let grown : in_use key (p ∷ done) ≡ p ∷ in_use key done = ap (λ c. cond c (p ∷ in_use key done) (in_use key done)) here in
        record {
          keys = t.keys;
          single = t.single;
          number_is = t.number_is;
          four = t.four;
          high_is = t.high_is;
          these = λ q. (
            (λ h. subst (λ l. Has l q) (sym grown) (⊎_elim (λ (i : In b q). has_there p (in_use key done) q ((t.these q).0 i)) (λ (s : q ≡ p). subst (Has (p ∷ in_use key done)) (sym s) (has_here p (in_use key done))) ((d.2.these q).0 h))),
            λ h. (d.2.these q).1 (⊎_elim (λ (s : p ≡ q). inr (sym s)) (λ (i : Has (in_use key done) q). inl ((t.these q).1 i)) (has_cases p (in_use key done) q (subst (λ l. Has l q) grown h))),
          );
          apart = apart_cons p done t.apart (λ h. d.0 ((t.these p).1 (kept_has f done p here h)));
          room = d.2.room ∙ t.room;
          below = (t.bound p.0 k found, t.below);
          bound = t.bound;
        }

  -- a fresh station
  pub tied_fresh : (b b' : Meaning) → Cleared b b' → b.capacity ≡ capacity → Tied {K = K} capacity (λ _. None) 0 0 [] (None ∷ None ∷ None ∷ None ∷ []) 0 b'
  tied_fresh b b' c room = record {
    keys = λ e. refl;
    single = λ e. omega arith;
    number_is = refl;
    four = refl;
    high_is = refl;
    these = λ q. (λ h. absurd ((c.these q).0 h), λ h. absurd (omega (arith, h.1)));
    apart = apart_none;
    room = c.room ∙ room;
    below = tt;
    bound = λ e k p. none_some p;
  }
