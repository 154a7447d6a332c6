use Rattle.std.proofs.Common.{rules}
use Rattle.digest.specs.Words.{majority}
use Rattle.digest.proofs.Logic.{majority_short}
use Rattle.digest.proofs.compress.maj.Goals as goal

pub returns : goal.returns
unfolding majority
returns c = majority_short 32 c.args.x c.args.y c.args.z (search rules) (search rules) (search rules)
