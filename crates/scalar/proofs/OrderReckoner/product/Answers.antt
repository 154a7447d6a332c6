use Rattle.scalar.specs.Modulo.{modulo}
use Rattle.scalar.specs.Scalars.{multiplied}
use Rattle.scalar.proofs.OrderReckoner.product.Goals as goal

pub returns : goal.returns
unfolding multiplied modulo
returns g c = c.scalar.ensures
