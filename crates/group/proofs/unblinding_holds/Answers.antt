use Rattle.group.proofs.Laws.{unblinds}
use Rattle.group.proofs.unblinding_holds.Goals as goal

pub returns : goal.returns
returns g c = unblinds g.G.Group.model
