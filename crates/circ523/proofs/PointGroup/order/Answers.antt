use Rattle.std.proofs.Common.{ap}
use Rattle.scalar.specs.Laws.{one_order}
use Rattle.scalar.specs.Modulo.{modulo}
use Rattle.circ523.specs.Elements.{order}
use Rattle.circ523.proofs.PointGroup.order.Goals as goal

pub invariant_of-result : goal.invariant_of-result
invariant_of-result c = record { low = order.low; high = order.high; prime = order.prime }

pub returns : goal.returns
returns c = ap modulo (one_order _ order)
