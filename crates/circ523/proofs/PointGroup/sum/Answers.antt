use Rattle.std.proofs.Common.{sym, subst}
use Rattle.circle.specs.Circle.{Member}
use Rattle.circ523.proofs.Steps.{is_sum, sum_member}
use Rattle.circ523.proofs.PointGroup.sum.Goals as goal

pub invariant_of-result : goal.invariant_of-result
invariant_of-result c = record { member = subst Member (sym c.sum.ensures) (sum_member c.args.self c.args.other) }

pub returns : goal.returns
returns c = is_sum c.args.self c.args.other _ c.sum.ensures
