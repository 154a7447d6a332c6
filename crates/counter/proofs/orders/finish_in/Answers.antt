use Rattle.std.proofs.Common.{rules}
use Rattle.counter.specs.Orders.{finish_in}
use Rattle.counter.proofs.orders.finish_in.Goals as goal

pub returns-in-Res2039 : goal.returns-in-Res2039
unfolding finish_in
returns-in-Res2039 c = search rules

pub returns-in-Circ523 : goal.returns-in-Circ523
unfolding finish_in
returns-in-Circ523 c = search rules
