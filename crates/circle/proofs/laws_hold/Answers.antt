use Rattle.circle.proofs.Lawful.{lawful}
use Rattle.circle.proofs.laws_hold.Goals as goal

pub returns : goal.returns
returns c = lawful
