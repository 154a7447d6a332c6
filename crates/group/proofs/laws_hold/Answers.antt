use Rattle.group.proofs.Laws.{lawful}
use Rattle.group.proofs.laws_hold.Goals as goal

pub returns : goal.returns
returns g c = lawful g.G.Group.model
