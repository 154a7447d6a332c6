use Rattle.std.proofs.Common.{rules}
use Rattle.counter.specs.Orders.{blind_in}
use Rattle.counter.proofs.orders.begin_in.Goals as goal

pub returns-in-Res2039 : goal.returns-in-Res2039
unfolding blind_in
returns-in-Res2039 c = search rules

pub returns-in-Circ523 : goal.returns-in-Circ523
unfolding blind_in
returns-in-Circ523 c = search rules
