use Rattle.std.proofs.Common.{◌∙◌}
use Rattle.circle.proofs.Algebra.{multiple}
use Rattle.circle.proofs.Pair.times.Goals as goal

pub returns : goal.returns
returns c = c.repeated.ensures ∙ multiple c.args.n c.args.self
