use Rattle.text.proofs.Spelling.{Spelt}
use Rattle.text.proofs.decimal.spell.Given as goal

abbrev pub invariant-loop-start : goal.invariant-loop-start
invariant-loop-start l = Spelt l.number l.rest l.start l.digits
