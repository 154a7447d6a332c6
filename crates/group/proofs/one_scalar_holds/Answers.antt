use Rattle.group.proofs.Laws.{one_scalar}
use Rattle.group.proofs.one_scalar_holds.Goals as goal

pub returns : goal.returns
returns g c = one_scalar g.G.Group.model
