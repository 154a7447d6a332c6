use Rattle.std.proofs.Common.{refl}
use Rattle.scalar.proofs.Meets.{by_value}
use Rattle.scalar.proofs.order.Order.scalar.Goals as goal

pub returns : goal.returns
returns g c = by_value c.args.self _ c.args.n refl
