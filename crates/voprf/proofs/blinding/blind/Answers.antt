use Rattle.voprf.specs.Blinding.{blinded}
use Rattle.voprf.proofs.blinding.blind.Goals as goal

pub returns : goal.returns
unfolding blinded
returns g c = cc
