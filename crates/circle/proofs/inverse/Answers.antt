use Rattle.std.proofs.Common.{ap, ◌∙◌}
use Rattle.circle.proofs.Field.{inverse_value}
use Rattle.circle.proofs.inverse.Goals as goal

pub returns : goal.returns
returns c = ap (λ s. s.value) c.inverse.ensures ∙ inverse_value _ _
