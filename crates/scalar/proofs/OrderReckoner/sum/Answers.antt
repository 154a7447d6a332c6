use Rattle.scalar.specs.Modulo.{modulo}
use Rattle.scalar.specs.Scalars.{added}
use Rattle.scalar.proofs.OrderReckoner.sum.Goals as goal

pub returns : goal.returns
unfolding added modulo
returns g c = c.scalar.ensures
