use Rattle.res2039.specs.Elements.{code_of}
use Rattle.res2039.proofs.ResidueGroup.encode.Goals as goal

pub returns : goal.returns
unfolding code_of
returns c = c.two.ensures
