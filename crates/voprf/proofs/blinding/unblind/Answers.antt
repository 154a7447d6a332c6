use Rattle.voprf.specs.Blinding.{unblinded}
use Rattle.voprf.proofs.blinding.unblind.Goals as goal

pub returns : goal.returns
unfolding unblinded
returns g c = cc
