use Rattle.scalar.specs.Modulo.{modulo}
use Rattle.scalar.specs.Scalars.{subtracted}
use Rattle.scalar.proofs.OrderReckoner.difference.Goals as goal

pub returns : goal.returns
unfolding subtracted modulo
returns g c = c.scalar.ensures
