use Rattle.voprf.proofs.Passing.{proofs_pass}
use Rattle.voprf.proofs.proving.proofs_pass.Goals as goal

pub returns : goal.returns
returns g c = proofs_pass g.G.Group.model
