use Rattle.group.proofs.Laws.{one_scalar}
use Rattle.hashing.specs.Hashing.{hash_to_group}
use Rattle.voprf.specs.Blinding.{blinded}
use Rattle.voprf.proofs.blinding.every_input_fits.Goals as goal

pub returns : goal.returns
unfolding blinded
returns g c = λ b input sent mapped. let m = g.G.Group.model in one_scalar m (hash_to_group m input) b mapped sent
