use Rattle.std.proofs.Common.{ap, ◌∙◌}
use Rattle.res2039.specs.Factors.{power}
use Rattle.res2039.proofs.raised.Goals as goal

pub returns : goal.returns
returns c = ap (λ x. x.0) c.repeated.ensures ∙ power c.args.e _
