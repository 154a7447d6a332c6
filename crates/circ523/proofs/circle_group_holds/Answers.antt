use Rattle.circ523.proofs.Values.{as_circle}
use Rattle.circ523.proofs.circle_group_holds.Goals as goal

pub returns : goal.returns
returns c = as_circle
