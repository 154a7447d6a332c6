use Rattle.std.proofs.Common.{◌∙◌, arith}
use Rattle.numbers.proofs.Doubling.{begun, turn_odd, turn_even, ended}
use Rattle.numbers.proofs.repeated.repeated.Goals as goal
use Rattle.numbers.proofs.repeated.repeated.Goals.{then-left-eq1, else-left-eq1}

pub loop-left-init : goal.loop-left-init
loop-left-init g c = begun g.met.J.Join.laws c.null-total.result c.args.n c.args.x c.null-total.ensures

pub loop-left-preserved : goal.loop-left-preserved
loop-left-preserved g c =
    let laws = g.met.J.Join.laws in
    let made = c.loop-left.invariant in
    elim c.if-left-eq1.branch [
      | then-left-eq1 w ↦ turn_odd laws c.loop-left.total c.loop-left.doubled _ _ _ c.loop-left.left w.if-left-eq1.true (w.total-is ∙ w.join-total.ensures) c.join-doubled.ensures made
      | else-left-eq1 w ↦ turn_even laws c.loop-left.total c.loop-left.doubled _ _ _ c.loop-left.left w.if-left-eq1.false w.total-is c.join-doubled.ensures made
    ]

pub returns : goal.returns
returns g c = ended g.met.J.Join.laws c.loop-left.total c.loop-left.doubled _ c.loop-left.left (omega arith) c.loop-left.invariant
