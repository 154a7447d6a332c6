use Rattle.scalar.specs.Modulo.{modulo}
use Rattle.scalar.proofs.Reckoning.{reckons}
use Rattle.scalar.proofs.reckoning_holds.Goals as goal

pub returns : goal.returns
returns g c = reckons (modulo c.args.order)
