use Rattle.std.proofs.Common.{sym, subst}
use Rattle.numbers.specs.Cycle.{Member}
use Rattle.numbers.proofs.Powers.{product_member}
use Rattle.res2039.specs.Powers2039.{cycle}
use Rattle.res2039.proofs.Steps.{sum_is}
use Rattle.res2039.proofs.ResidueGroup.sum.Goals as goal

pub invariant_of-result : goal.invariant_of-result
invariant_of-result c = record {
  member = subst (Member 2039 1019) (sym c.product.ensures) (product_member cycle c.args.self.value c.args.other.value c.args.self.member c.args.other.member);
}

pub returns : goal.returns
returns c = sum_is c.args.self c.args.other _ c.product.ensures
