use Rattle.std.proofs.Common.{ap, lit<, lit≤}
use Rattle.scalar.specs.Laws.{one_order}
use Rattle.scalar.specs.Modulo.{modulo}
use Rattle.res2039.specs.Powers2039.{order_prime}
use Rattle.res2039.specs.Laws.{order}
use Rattle.res2039.proofs.ResidueGroup.order.Goals as goal

pub invariant_of-result : goal.invariant_of-result
invariant_of-result c = record { low = lit≤ tt; high = lit< tt; prime = order_prime }

pub returns : goal.returns
returns c = ap modulo (one_order _ order)
