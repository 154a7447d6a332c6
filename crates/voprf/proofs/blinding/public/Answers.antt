use Rattle.voprf.specs.Blinding.{public_key}
use Rattle.voprf.proofs.blinding.public.Goals as goal

pub returns : goal.returns
unfolding public_key
returns g c = cc
