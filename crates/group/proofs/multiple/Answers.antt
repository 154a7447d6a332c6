use Rattle.std.proofs.Common.{◌≡◌, ℕ, ◌*◌, sym, ap, ◌∙◌, arith}
use Rattle.group.proofs.Logs.{above, none_past_code, bit_one, bit_zero, all_above}
use Rattle.group.proofs.multiple.Goals as goal

pub loop-place-init : goal.loop-place-init
loop-place-init g c =
    let m = g.G.Group.model in
    c.null-r.ensures ∙ none_past_code m c.args.s c.args.p ∙ ap (λ (w : ℕ). above m c.args.s c.args.p (8 * w)) (sym c.scalar_width-width.ensures)

pub loop-place-preserved-then-bit : goal.loop-place-preserved-then-bit
loop-place-preserved-then-bit g c =
    bit_one g.G.Group.model c.args.s c.args.p c.loop-place.place c.loop-place.r c.sum-r.result c.sum-r-then-bit.result
    (omega arith) c.loop-place.invariant c.sum-r.ensures c.sum-r-then-bit.ensures (sym c.bit.ensures ∙ c.if-bit.true)

pub loop-place-preserved : goal.loop-place-preserved
loop-place-preserved g c =
    bit_zero g.G.Group.model c.args.s c.args.p c.loop-place.place c.loop-place.r c.sum-r.result
    (omega arith) c.loop-place.invariant c.sum-r.ensures (sym c.bit.ensures ∙ c.if-bit.false)

pub returns : goal.returns
returns g c =
    let m = g.G.Group.model in
    let none : c.loop-place.place ≡ 0 = omega arith in
    c.loop-place.invariant ∙ ap (above m c.args.s c.args.p) none ∙ all_above m c.args.s c.args.p
