use Rattle.voprf.specs.Blinding.{answered, direct}
use Rattle.voprf.proofs.blinding.direct.Goals as goal

pub returns : goal.returns
unfolding answered direct
returns g c = cc
