use Rattle.messages.proofs.Batches.{placed}
use Rattle.messages.proofs.places_hold.Goals as goal

pub returns : goal.returns
returns g c = placed g.G.Group.model
