use Rattle.std.proofs.Common.{refl, arith}
use Rattle.text.proofs.Spelling.{none_yet, all_spelt, whole, one_more}
use Rattle.text.proofs.decimal.spell.Goals as goal

pub loop-start-init : goal.loop-start-init
loop-start-init c = none_yet _ _ (omega arith) c.told-digits

pub returns-then-rest-eq0-clause-digits : goal.returns-then-rest-eq0-clause-digits
returns-then-rest-eq0-clause-digits c = whole _ _ c.loop-start.invariant c.loop-start-test.true c.loop-start.auto.start refl refl c.if-rest-eq0.true

pub loop-start-preserved : goal.loop-start-preserved
loop-start-preserved c = one_more _ _ c.loop-start.invariant c.loop-start-test.true c.loop-start.auto.start refl refl c.if-rest-eq0.false

pub unreachable-requires : goal.unreachable-requires
unreachable-requires c = all_spelt c.loop-start.invariant (omega arith)
