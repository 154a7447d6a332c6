use Rattle.group.proofs.Weighing.{weighs}
use Rattle.group.proofs.weighted_sums_hold.Goals as goal

pub returns : goal.returns
returns g c = weighs g.G.Group.model
