-- What the three steps ensure, joined without a name of theirs.
use Rattle.circle.specs.Circle.{mapped_pair}
use Rattle.circle.proofs.mapped.Goals as goal

pub returns : goal.returns
unfolding mapped_pair
returns c = cc
