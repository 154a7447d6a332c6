use Rattle.std.proofs.Common.{refl, ◌∙◌, arith}
use Rattle.scalar.specs.Modulo.{modulo}
use Rattle.scalar.specs.Scalars.{bit_at}
use Rattle.scalar.proofs.Meets.{bit_past}
use Rattle.scalar.proofs.OrderReckoner.bit.Goals as goal
use Rattle.std.proofs.lemmas.Bool.{le-ltb}

pub returns-then-place-lt16 : goal.returns-then-place-lt16
unfolding modulo bit_at
returns-then-place-lt16 g c = refl

pub returns-else-place-lt16 : goal.returns-else-place-lt16
returns-else-place-lt16 g c = le-ltb c.args.place 16 c.if-place-lt16.false ∙ bit_past c.args.self c.args.s c.args.place (omega arith)
