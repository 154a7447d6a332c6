use Rattle.std.proofs.Common.{sym, subst}
use Rattle.circle.specs.Circle.{Member}
use Rattle.circ523.proofs.Steps.{is_opposite, opposite_member}
use Rattle.circ523.proofs.PointGroup.opposite.Goals as goal

pub invariant_of-result : goal.invariant_of-result
invariant_of-result c = record { member = subst Member (sym c.opposite.ensures) (opposite_member c.args.self) }

pub returns : goal.returns
returns c = is_opposite c.args.self _ c.opposite.ensures
