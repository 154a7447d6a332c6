use Rattle.std.proofs.Common.{refl}
use Rattle.scalar.specs.Modulo.{modulo}
use Rattle.scalar.proofs.OrderReckoner.part.Goals as goal

pub returns : goal.returns
unfolding modulo
returns g c = refl
