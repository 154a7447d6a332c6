use Rattle.std.proofs.Common.{sym, subst}
use Rattle.circle.specs.Circle.{Member}
use Rattle.circle.proofs.Cyclic.{multiple_member}
use Rattle.circ523.proofs.Steps.{is_base_multiple}
use Rattle.circ523.proofs.PointGroup.base_multiple.Goals as goal

pub invariant_of-result : goal.invariant_of-result
invariant_of-result c = record { member = subst Member (sym c.times.ensures) (multiple_member c.args.s.value) }

pub returns : goal.returns
returns c = is_base_multiple c.args.s _ c.times.ensures
