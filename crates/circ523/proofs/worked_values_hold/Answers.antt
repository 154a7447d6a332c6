use Rattle.circ523.proofs.Values.{values}
use Rattle.circ523.proofs.worked_values_hold.Goals as goal

pub returns : goal.returns
returns c = values
