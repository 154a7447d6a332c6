use Rattle.std.proofs.Common.{refl}
use Rattle.res2039.proofs.Steps.{generator_is}
use Rattle.res2039.proofs.ResidueGroup.generator.Goals as goal

pub returns : goal.returns
returns c = generator_is _ refl
