use Rattle.std.proofs.Common.{refl}
use Rattle.res2039.proofs.Steps.{null_is}
use Rattle.res2039.proofs.ResidueGroup.null.Goals as goal

pub returns : goal.returns
returns c = null_is _ refl
