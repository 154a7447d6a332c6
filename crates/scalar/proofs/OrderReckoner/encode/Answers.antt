use Rattle.std.proofs.Common.{◌∙◌, arith}
use Rattle.scalar.proofs.Meets.{code_one, code_two}
use Rattle.scalar.proofs.OrderReckoner.encode.Goals as goal

pub returns-then-this-le256 : goal.returns-then-this-le256
returns-then-this-le256 g c = c.one.ensures ∙ code_one c.args.self c.args.s (omega arith)

pub returns-else-this-le256 : goal.returns-else-this-le256
returns-else-this-le256 g c = c.two.ensures ∙ code_two c.args.self c.args.s (omega arith)
