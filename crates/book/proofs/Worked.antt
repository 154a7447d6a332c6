-- The worked case of a book with one place. Assumes nothing.
use Rattle.std.proofs.Common.{◌≡◌, ℕ, Ok, Err, Result, sym, refl, ap, ◌∙◌, inr, ⊎_elim, arith}
use Rattle.faults.specs.declared.BookFault.{BookFault}
use Rattle.faults.specs.declared.BookFault.TheVariants.{Spent, Full}
use Rattle.book.specs.Meaning.{Pair, Meaning, In, size_of, Alike, Marked, Dropped}
use Rattle.book.specs.Laws.{OnePlaceHolds}
use Rattle.book.proofs.Facts.{alike_size, none_size, added_size}

-- a book with one place, and nothing in it
abbrev pub Empty : Meaning → Type 0
Empty b = ((q : Pair) → In b q → ⊥) × (b.capacity ≡ 1)

-- a book with one place, and just this pair in it
abbrev pub Holds : Meaning → Pair → Type 0
Holds b p = In b p × ((q : Pair) → In b q → q ≡ p) × (size_of b ≡ 1) × (b.capacity ≡ 1)

pub first : (b b' : Meaning) (p : Pair) (r : Result (Unit {0}) BookFault) → Empty b → Marked b p r b' → (r ≡ Ok tt) × Holds b' p
first b b' p (Ok _) (none, one) m =
    let grown = added_size b b' p m.0 m.2 in
    let room = m.2.room in
    (refl, ((m.2.these p).1 (inr refl), (λ q h. ⊎_elim (λ (k : In b q). absurd (none q k)) (λ (k : q ≡ p). k) ((m.2.these q).0 h)), omega (arith, none_size b none), room ∙ one))
first b b' p (Err Spent) (none, one) m = absurd (none p m.0)
first b b' p (Err Full) (none, one) m = let full = m.1 in absurd (omega (arith, none_size b none))

alike_holds : (b b' : Meaning) (p : Pair) → Holds b p → Alike b b' → Holds b' p
alike_holds b b' p (here, only, long, one) s =
    ((s.these p).1 here, (λ q h. only q ((s.these q).0 h)), alike_size b b' s ∙ long, s.room ∙ one)

pub again : (b b' : Meaning) (p : Pair) (r : Result (Unit {0}) BookFault) → Holds b p → Marked b p r b' → (r ≡ Err Spent) × Holds b' p
again b b' p (Ok _) h m = absurd (m.0 h.0)
again b b' p (Err Spent) h m = (refl, alike_holds b b' p h m.1)
again b b' p (Err Full) h m = absurd (m.0 h.0)

pub other : (b b' : Meaning) (p q : Pair) (r : Result (Unit {0}) BookFault) → (q ≡ p → ⊥) → Holds b p → Marked b q r b' → (r ≡ Err Full) × Holds b' p
other b b' p q (Ok _) differ h m = let long = h.2 in let one = h.3 in let lt = m.1 in absurd (omega arith)
other b b' p q (Err Spent) differ h m = absurd (differ (h.1 q m.0))
other b b' p q (Err Full) differ h m = (refl, alike_holds b b' p h m.2)

pub dropped : (b b' : Meaning) (p : Pair) (epoch r : ℕ) → p.0 ≡ epoch → Holds b p → Dropped b epoch r b' → (r ≡ 1) × Empty b'
dropped b b' p epoch r e h d =
    let none : (q : Pair) → In b' q → ⊥ = λ q k. let was = (d.0.these q).0 k in was.1 (ap (λ x. x.0) (h.1 q was.0) ∙ e) in
    let long = h.2 in
    let n = d.1 in
    (omega (arith, none_size b' none), (none, d.0.room ∙ h.3))

pub one_place : OnePlaceHolds
one_place start end a b none one differ rs run =
    let m1 = run.0 in
    let m2 = run.2.0 in
    let m3 = run.2.2.0 in
    let m4 = run.2.2.2.0 in
    let m5 = run.2.2.2.2.0 in
    let s1 = first start m1 (1, a) rs.0 (none, one) run.1 in
    let s2 = again m1 m2 (1, a) rs.1.0 s1.1 run.2.1 in
    let s3 = other m2 m3 (1, a) (1, b) rs.1.1.0 (λ e. differ (ap (λ x. x.1) (sym e))) s2.1 run.2.2.1 in
    let s4 = dropped m3 m4 (1, a) 1 rs.1.1.1.0 refl s3.1 run.2.2.2.1 in
    let s5 = first m4 m5 (2, b) rs.1.1.1.1.0 s4.1 run.2.2.2.2.1 in
    (λ i. (s1.0 i, (s2.0 i, (s3.0 i, (s4.0 i, (s5.0 i, tt))))))
