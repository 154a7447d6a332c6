use Rattle.client.proofs.Accepting.{honest}
use Rattle.client.proofs.honest_replies_are_accepted.Goals as goal

pub returns : goal.returns
returns g c = honest g.G.Group.model
