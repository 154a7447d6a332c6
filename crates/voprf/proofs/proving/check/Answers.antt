use Rattle.std.proofs.Common.{◌≡◌, ℕ, true, false, arith, rules}
use Rattle.voprf.specs.Proving.{checked}
use Rattle.voprf.proofs.Sums.{same_scalars, other_scalars, judged}
use Rattle.voprf.proofs.proving.check.Goals as goal

pub returns-in_err-composites : goal.returns-in_err-composites
unfolding checked
returns-in_err-composites g c = search rules

pub returns-then-not-same_scalar : goal.returns-then-not-same_scalar
returns-then-not-same_scalar g c =
    let m = g.G.Group.model in
    judged m c.args.pk c.args.sent.now c.args.got.now (c.args.c, c.args.s) c.in_ok-composites.composites c.retrace.result false
    c.in_ok-composites.ensures c.retrace.ensures
    (other_scalars m c.retrace.result c.args.c (λ e. let t = c.same_scalar.ensures.1 e in let f = c.if-not-same_scalar.true in let z : ◌≡◌ {A = ℕ} 0 1 = cc in omega arith))

pub returns : goal.returns
returns g c =
    let m = g.G.Group.model in
    judged m c.args.pk c.args.sent.now c.args.got.now (c.args.c, c.args.s) c.in_ok-composites.composites c.retrace.result true
    c.in_ok-composites.ensures c.retrace.ensures
    (same_scalars m c.retrace.result c.args.c (c.same_scalar.ensures.0 c.if-not-same_scalar.false))
