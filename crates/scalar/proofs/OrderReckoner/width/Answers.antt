use Rattle.std.proofs.Common.{sym, arith}
use Rattle.scalar.specs.Modulo.{modulo}
use Rattle.scalar.proofs.Meets.{width_one, width_two}
use Rattle.scalar.proofs.OrderReckoner.width.Goals as goal

pub returns-then-this-le256 : goal.returns-then-this-le256
unfolding modulo
returns-then-this-le256 g c = sym (width_one g.row.Q (omega arith))

pub returns-else-this-le256 : goal.returns-else-this-le256
unfolding modulo
returns-else-this-le256 g c = sym (width_two g.row.Q (omega arith))
