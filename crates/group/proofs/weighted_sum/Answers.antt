use Rattle.std.proofs.Common.{◌≡◌, ℕ, ◌+◌, ◌*◌, length, Ok, Err, sym, ap, ◌∙◌, eqb-true, inl, inr, arith, rules}
use Rattle.std.specs.Slice.Iter.{iter_rest, chunks_exact_rest, chunks_exact_size}
use Rattle.std.specs.Iterator.Adapters.{enumerate_source, enumerate_count, zip_first, zip_second}
use borrow.Author.Tests.{eqb-false}
use Rattle.faults.specs.declared.GroupFault.{GroupFault}
use Rattle.group.specs.declared.SumFault.TheVariants.{Item}
use Rattle.std.proofs.lemmas.Result.{err_from_is_err_and}
use Rattle.group.proofs.Weighing.{whole_length, length_quotient, wrong_length, all_left, turned, bad_item, ended}
use Rattle.group.proofs.weighted_sum.Goals as goal
use Rattle.group.proofs.weighted_sum.Goals.{then-len-scalars-via-then-len-scalars, then-len-scalars-via-else-len-scalars+then-not-is_empty}

pub returns-then-len-scalars : goal.returns-then-len-scalars
returns-then-len-scalars g c =
    let m = g.G.Group.model in
    let codes = c.args.codes.now in
    let scalars = c.args.scalars.now in
    let width = c.element_width.ensures in
    let some = m.element_some in
    wrong_length m codes scalars
    (λ e.
    let both = length_quotient (length codes) (length scalars) c.element_width.result (omega arith) (e ∙ ap (λ (w : ℕ). length scalars * w) (sym width)) in
    let items = c.chunks_exact-items.ensures in
    let many = c.len.ensures.value ∙ items.count in
    let left = items.remainder_len in
    elim c.then-len-scalars.branch [
      | then-len-scalars-via-then-len-scalars w ↦ w.if-len-scalars.true (many ∙ both.0)
      | then-len-scalars-via-else-len-scalars+then-not-is_empty w ↦
          let some-left : length w.remainder.result.now ≡ 0 → ⊥ = eqb-false _ _ (sym (w.if-not-is_empty.ensures)) in
          some-left (ap length w.remainder.ensures ∙ left ∙ both.1)
    ])

pub loop-i-init : goal.loop-i-init
loop-i-init g c =
    let m = g.G.Group.model in
    let codes = c.args.codes.now in
    let scalars = c.args.scalars.now in
    let begun = c.into_iter-i-iterator.ensures.into_iter_gives in
    let source = ap enumerate_source begun ∙ c.enumerate-i-items.ensures.source in
    let first = ap zip_first source ∙ c.zip.ensures.first in
    let items = c.chunks_exact-items.ensures in
    let none : length c.remainder.result.now ≡ 0 = eqb-true _ _ (sym c.if-not-is_empty.ensures) in
    let long : length codes ≡ length scalars * m.element_width =
    whole_length (length codes) (length scalars) c.element_width.result (sym (c.len.ensures.value ∙ items.count) ∙ c.if-len-scalars.false)
    (sym (ap length c.remainder.ensures ∙ items.remainder_len) ∙ none) ∙
    ap (λ (w : ℕ). length scalars * w) c.element_width.ensures in
    all_left m codes _ scalars _ c.null-total.result _ _ long c.null-total.ensures
    (ap chunks_exact_size first ∙ items.size ∙ c.element_width.ensures)
    (ap enumerate_count begun ∙ c.enumerate-i-items.ensures.count)
    (ap chunks_exact_rest first ∙ items.rest)
    (ap (λ z. iter_rest (zip_second z)) source ∙ c.zip.ensures.second.0)

pub returns-in_err-p : goal.returns-in_err-p
returns-in_err-p g c =
    let steps = c.in-Some.ensures.steps in
    let q = err_from_is_err_and c.from_residual.result c.from_residual.ensures.1 in
    let bad : (d : GroupFault) × (c.decode.result ≡ Err d) × (c.in_err-p.field-0.0 ≡ Item (c.in-Some.i + 1) d) = search rules in
    rw (q.1, q.2, bad.2)
    (bad_item g.G.Group.model c.loop-i.total _ _ _ c.in-Some.code.now _ _ c.in-Some.s.now _ _
    steps.0.0.1.0 steps.0.0.1.1 steps.0.1 c.loop-i.invariant c.in-Some.i bad.0 steps.1 (sym bad.1 ∙ c.decode.ensures))

pub loop-i-preserved : goal.loop-i-preserved
loop-i-preserved g c =
    let steps = c.in-Some.ensures.steps in
    let good : c.decode.result ≡ Ok c.in_ok-p.p = search rules in
    turned g.G.Group.model c.loop-i.total _ _ _ c.in-Some.code.now _ _ c.in-Some.s.now _ _
    steps.0.0.1.0 steps.0.0.1.1 steps.0.1 c.loop-i.invariant c.in_ok-p.p _ _ _ _
    (sym good ∙ c.decode.ensures) c.multiple.ensures c.sum-total.ensures steps.0.0.0 steps.2

pub returns : goal.returns
returns g c =
    let steps = c.in-None.ensures.steps in
    ended g.G.Group.model c.loop-i.total _ _ _ _ _ c.loop-i.invariant (elim steps.0 [ inl a ↦ inl a.1.1.0 | inr b ↦ inr b.1.0 ])
