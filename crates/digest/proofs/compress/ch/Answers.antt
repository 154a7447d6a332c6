use Rattle.std.proofs.Common.{rules}
use Rattle.digest.specs.Words.{choice}
use Rattle.digest.proofs.Logic.{choice_short}
use Rattle.digest.proofs.compress.ch.Goals as goal

pub returns : goal.returns
unfolding choice
returns c = choice_short 32 c.args.x c.args.y c.args.z (search rules) (search rules) (search rules)
