use Rattle.voprf.specs.Blinding.{answered}
use Rattle.voprf.proofs.blinding.evaluate.Goals as goal

pub returns : goal.returns
unfolding answered
returns g c = cc
