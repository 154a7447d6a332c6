use Rattle.std.proofs.Common.{sym, subst}
use Rattle.numbers.specs.Cycle.{Member}
use Rattle.numbers.proofs.Powers.{power_member}
use Rattle.res2039.specs.Powers2039.{cycle}
use Rattle.res2039.proofs.Steps.{base_is}
use Rattle.res2039.proofs.ResidueGroup.base_multiple.Goals as goal

pub invariant_of-result : goal.invariant_of-result
invariant_of-result c = record { member = subst (Member 2039 1019) (sym c.power_of_four.ensures) (power_member cycle c.args.s.value) }

pub returns : goal.returns
returns c = base_is c.args.s _ c.power_of_four.ensures
