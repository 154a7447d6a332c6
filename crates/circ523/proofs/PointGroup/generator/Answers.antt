use Rattle.std.proofs.Common.{refl}
use Rattle.circle.proofs.Cyclic.{multiple_member}
use Rattle.circle.specs.Circle.{times}
use Rattle.circ523.proofs.Steps.{is_generator}
use Rattle.circ523.proofs.PointGroup.generator.Goals as goal

pub invariant_of-result : goal.invariant_of-result
unfolding times
invariant_of-result c = record { member = multiple_member 1 }

pub returns : goal.returns
returns c = is_generator _ refl
