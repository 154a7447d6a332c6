-- What follows from a book's meaning alone. Assumes nothing.
use Rattle.std.proofs.Common.{◌≡◌, ℕ, ◌+◌, Bool, true, false, not, eqb, ◌⊎◌, List, [], ◌∷◌, ◌++◌, length, Ok, Err, Decides, Result, sym, refl, ◌∙◌, subst, inl, inr, ⊎_elim, arith}
use Rattle.std.specs.List.{ContainsAt as Has}
use Rattle.std.proofs.lemmas.Bool.{not-true, not_from_false, eqb-false, ne_eqb}
use Rattle.std.proofs.lemmas.List.{length_push}
use Rattle.std.proofs.ByRecursion.{has_push, has_push_cases, has_append_left}
use Rattle.std.proofs.lemmas.List.Filters.{length-filter_both}
use Rattle.faults.specs.declared.BookFault.{BookFault}
use Rattle.faults.specs.declared.BookFault.TheVariants.{Spent, Full}
use Rattle.book.specs.Meaning.{Pair, Meaning, In, size_of, Exactly, Becomes, Alike, Cleared, Marked, Dropped, others}
use Rattle.book.specs.Runs.{Call, clear, has, mark, drop, size, capacity, Answer, Step}
use Rattle.book.specs.Laws.{ToldAlike, SizeCounts, MarkAnswers, MarkCounts, DropCounts}
use Rattle.book.proofs.Sets.{length_same, apart_push, apart_kept, has_kept, passes_kept, kept_has, has_none}

-- ---- for a maker of a kind: a meaning from its list of pairs

-- the list has not changed
pub becomes_same : (before after : Meaning) → after.pairs ≡ before.pairs → after.capacity ≡ before.capacity → Alike before after
becomes_same before after e c = record {
  these = λ q. (λ h. subst (λ ps. Has ps q) e h, λ h. subst (λ ps. Has ps q) (sym e) h);
  room = c;
}

-- the list is empty
pub becomes_empty : (before after : Meaning) → after.pairs ≡ [] → after.capacity ≡ before.capacity → Cleared before after
becomes_empty before after e c = record {
  these = λ q. (λ h. let k : Has {X = Pair} [] q = subst (λ ps. Has ps q) e h in absurd (omega (arith, k.1)), λ h. absurd h);
  room = c;
}

-- the list has one pair more at its end
pub becomes_pushed : (before after : Meaning) (p : Pair) → after.pairs ≡ before.pairs ++ p ∷ [] → after.capacity ≡ before.capacity
    → Becomes before (λ q. In before q ⊎ (q ≡ p)) after
becomes_pushed before after p e c = record {
  these = λ q. (
    λ h. elim (has_push_cases before.pairs p q (subst (λ ps. Has ps q) e h)) [ inl k ↦ inl k | inr k ↦ inr (sym k) ],
    λ h. subst (λ ps. Has ps q) (sym e) (⊎_elim
        (λ (k : In before q). has_append_left before.pairs (p ∷ []) q k)
        (λ (k : q ≡ p). subst (Has (before.pairs ++ p ∷ [])) (sym k) (has_push before.pairs p)) h),
  );
  room = c;
}

pub has_others : (epoch : ℕ) (ps : List Pair) (q : Pair) → Exactly (Has (others epoch ps) q) (Has ps q × (q.0 ≡ epoch → ⊥))
has_others epoch ps q = (
  λ h. (has_kept (λ p. not (eqb p.0 epoch)) ps q h, eqb-false q.0 epoch (not-true _ (passes_kept (λ p. not (eqb p.0 epoch)) ps q h))),
  λ h. kept_has (λ p. not (eqb p.0 epoch)) ps q (not_from_false _ (ne_eqb q.0 epoch h.1)) h.0,
)

-- the list has lost the pairs of an epoch
pub becomes_others : (before after : Meaning) (epoch : ℕ) → after.pairs ≡ others epoch before.pairs → after.capacity ≡ before.capacity
    → Becomes before (λ q. In before q × (q.0 ≡ epoch → ⊥)) after
becomes_others before after epoch e c = record {
  these = λ q. (λ h. (has_others epoch before.pairs q).0 (subst (λ ps. Has ps q) e h), λ h. subst (λ ps. Has ps q) (sym e) ((has_others epoch before.pairs q).1 h));
  room = c;
}

-- ---- sizes
pub alike_size : (a b : Meaning) → Alike a b → size_of b ≡ size_of a
alike_size a b s = length_same b.pairs a.pairs b.apart a.apart (λ q. (s.these q).0) (λ q. (s.these q).1)

pub size_counts : SizeCounts
size_counts b ps apart same = length_same b.pairs ps b.apart apart (λ q. (same q).1) (λ q. (same q).0)

pub none_size : (b : Meaning) → ((q : Pair) → In b q → ⊥) → size_of b ≡ 0
none_size b none = has_none b.pairs none

pub cleared_size : (before after : Meaning) → Cleared before after → size_of after ≡ 0
cleared_size before after s = none_size after (λ q. (s.these q).0)

pub added_size : (before after : Meaning) (p : Pair) → (In before p → ⊥) → Becomes before (λ q. In before q ⊎ (q ≡ p)) after → size_of after ≡ size_of before + 1
added_size before after p new s =
    length_same after.pairs (before.pairs ++ p ∷ []) after.apart (apart_push before.pairs p before.apart new)
    (λ q h. ⊎_elim
    (λ (k : In before q). has_append_left before.pairs (p ∷ []) q k)
    (λ (k : q ≡ p). subst (Has (before.pairs ++ p ∷ [])) (sym k) (has_push before.pairs p)) ((s.these q).0 h))
    (λ q h. (s.these q).1 (elim (has_push_cases before.pairs p q h) [ inl k ↦ inl k | inr k ↦ inr (sym k) ]))
    ∙ length_push before.pairs p

pub mark_counts : MarkCounts
mark_counts before after p = (
  λ m. added_size before after p m.0 m.2,
  λ f. elim f as (λ g. Marked before p (Err g) after → size_of after ≡ size_of before)
      [ Spent ↦ (λ m. alike_size before after m.1) | Full ↦ (λ m. alike_size before after m.2) ],
)

pub drop_counts : DropCounts
drop_counts before after epoch r d =
    let left : size_of after ≡ length (others epoch before.pairs) =
    length_same after.pairs (others epoch before.pairs) after.apart (apart_kept (λ p. not (eqb p.0 epoch)) before.pairs before.apart)
    (λ q h. (has_others epoch before.pairs q).1 ((d.0.these q).0 h))
    (λ q h. (d.0.these q).1 ((has_others epoch before.pairs q).0 h)) in
    let all = length-filter_both (λ p. eqb p.0 epoch) (λ p. not (eqb p.0 epoch)) (λ _. refl) before.pairs in
    let n = d.1 in
    omega arith

-- ---- answers
pub mark_answers : MarkAnswers
mark_answers before after p (Ok _) m =
    (λ h. absurd (m.0 h), (λ h full. let lt = m.1 in absurd (omega arith)), λ h lt. refl)
mark_answers before after p (Err Spent) m =
    (λ h. refl, (λ h full. absurd (h m.0)), λ h lt. absurd (h m.0))
mark_answers before after p (Err Full) m =
    (λ h. absurd (m.0 h), (λ h full. refl), λ h lt. let full = m.1 in absurd (omega arith))

-- ---- two books of one meaning
same_decided : (P Q : Type 0) (r s : Bool) → Exactly Q P → Decides r P → Decides s Q → r ≡ s
same_decided P Q true true e d f = refl
same_decided P Q true false e d f = sym (f.1 (e.1 (d.0 refl)))
same_decided P Q false true e d f = d.1 (e.0 (f.0 refl))
same_decided P Q false false e d f = refl

module _ (a b : Meaning) (one : Alike a b) where
  both_become : (P Q : Pair → Type 0) (a' b' : Meaning) → ((q : Pair) → Exactly (Q q) (P q)) → Becomes a P a' → Becomes b Q b' → Alike a' b'
  both_become P Q a' b' e s t = record {
    these = λ q. (λ h. (s.these q).1 ((e q).0 ((t.these q).0 h)), λ h. (t.these q).1 ((e q).1 ((s.these q).0 h)));
    room = t.room ∙ one.room ∙ sym s.room;
  }

  same_size : size_of b ≡ size_of a
  same_size = alike_size a b one

  same_marked : (p : Pair) (r s : Result (Unit {0}) BookFault) (a' b' : Meaning) → Marked a p r a' → Marked b p s b' → (r ≡ s) × Alike a' b'
  same_marked p (Ok _) (Ok _) a' b' m n = (
    refl,
    both_become _ _ a' b' (λ q.
        (λ h. elim h [ inl k ↦ inl ((one.these q).0 k) | inr k ↦ inr k ], λ h. elim h [ inl k ↦ inl ((one.these q).1 k) | inr k ↦ inr k ]))
        m.2 n.2,
  )
  same_marked p (Ok _) (Err Spent) a' b' m n = absurd (m.0 ((one.these p).0 n.0))
  same_marked p (Ok _) (Err Full) a' b' m n = let x = m.1 in let y = n.1 in let c = one.room in absurd (omega (arith, same_size))
  same_marked p (Err Spent) (Ok _) a' b' m n = absurd (n.0 ((one.these p).1 m.0))
  same_marked p (Err Spent) (Err Spent) a' b' m n = (refl, both_become (In a) (In b) a' b' one.these m.1 n.1)
  same_marked p (Err Spent) (Err Full) a' b' m n = absurd (n.0 ((one.these p).1 m.0))
  same_marked p (Err Full) (Ok _) a' b' m n = let x = m.1 in let y = n.1 in let c = one.room in absurd (omega (arith, same_size))
  same_marked p (Err Full) (Err Spent) a' b' m n = absurd (m.0 ((one.these p).0 n.0))
  same_marked p (Err Full) (Err Full) a' b' m n = (refl, both_become (In a) (In b) a' b' one.these m.2 n.2)

  same_dropped : (epoch r s : ℕ) (a' b' : Meaning) → Dropped a epoch r a' → Dropped b epoch s b' → (r ≡ s) × Alike a' b'
  same_dropped epoch r s a' b' m n =
      let after : Alike a' b' = both_become _ _ a' b' (λ q. (λ h. ((one.these q).0 h.0, h.1), λ h. ((one.these q).1 h.0, h.1))) m.0 n.0 in
      let x = m.1 in
      let y = n.1 in
      (omega (arith, same_size, alike_size a' b' after), after)

  same_step : (c : Call) (r s : Answer c) (a' b' : Meaning) → Step a c r a' → Step b c s b' → (r ≡ s) × Alike a' b'
  same_step clear r s a' b' m n = (refl, both_become (λ _. ⊥) (λ _. ⊥) a' b' (λ q. (λ h. h, λ h. h)) m n)
  same_step (has p) r s a' b' m n = (same_decided _ _ r s (one.these p) m.0 n.0, both_become (In a) (In b) a' b' one.these m.1 n.1)
  same_step (mark p) r s a' b' m n = same_marked p r s a' b' m n
  same_step (drop e) r s a' b' m n = same_dropped e r s a' b' m n
  same_step size r s a' b' m n = (m.0 ∙ sym same_size ∙ sym n.0, both_become (In a) (In b) a' b' one.these m.1 n.1)
  same_step capacity r s a' b' m n = (m.0 ∙ sym one.room ∙ sym n.0, both_become (In a) (In b) a' b' one.these m.1 n.1)

pub told_alike : ToldAlike
told_alike a b one [] rs ss a' b' m n = (refl, both_become a b one (In a) (In b) a' b' one.these m n)
told_alike a b one (c ∷ cs) rs ss a' b' m n =
    let first = same_step a b one c rs.0 ss.0 m.0 n.0 m.1 n.1 in
    let rest = told_alike m.0 n.0 first.1 cs rs.1 ss.1 a' b' m.2 n.2 in
    ((λ i. (first.0 i, rest.0 i)), rest.1)
