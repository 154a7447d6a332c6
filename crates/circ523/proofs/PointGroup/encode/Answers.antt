use Rattle.circ523.specs.Elements.{code_of}
use Rattle.circ523.proofs.PointGroup.encode.Goals as goal

pub returns : goal.returns
unfolding code_of
returns c = c.four.ensures
