use Rattle.res2039.proofs.Values.{worked}
use Rattle.res2039.proofs.worked_values_hold.Goals as goal

pub returns : goal.returns
returns c = worked
