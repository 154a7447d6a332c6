use Rattle.std.proofs.Common.{sym, subst}
use Rattle.numbers.specs.Cycle.{Member}
use Rattle.numbers.proofs.Powers.{raised_member}
use Rattle.res2039.specs.Powers2039.{cycle}
use Rattle.res2039.proofs.Steps.{opposite_is}
use Rattle.res2039.proofs.ResidueGroup.opposite.Goals as goal

pub invariant_of-result : goal.invariant_of-result
invariant_of-result c = record { member = subst (Member 2039 1019) (sym c.raised.ensures) (raised_member cycle c.args.self.value 1018 c.args.self.member) }

pub returns : goal.returns
returns c = opposite_is c.args.self _ c.raised.ensures
