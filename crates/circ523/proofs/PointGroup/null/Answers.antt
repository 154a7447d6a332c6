use Rattle.std.proofs.Common.{refl}
use Rattle.circle.proofs.Cyclic.{multiple_member}
use Rattle.circle.specs.Circle.{times}
use Rattle.circ523.proofs.Steps.{is_null}
use Rattle.circ523.proofs.PointGroup.null.Goals as goal

pub invariant_of-result : goal.invariant_of-result
unfolding times
invariant_of-result c = record { member = multiple_member 0 }

pub returns : goal.returns
returns c = is_null _ refl
