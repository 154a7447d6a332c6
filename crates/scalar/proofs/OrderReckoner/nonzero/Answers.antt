use Rattle.std.proofs.Common.{arith}
use Rattle.scalar.proofs.Meets.{is_nonzero, is_zero}
use Rattle.scalar.proofs.OrderReckoner.nonzero.Goals as goal

pub returns-else-s-gt0 : goal.returns-else-s-gt0
returns-else-s-gt0 g c = is_zero c.args.self c.args.s (omega arith)

pub returns-then-s-gt0 : goal.returns-then-s-gt0
returns-then-s-gt0 g c = is_nonzero c.args.self _
