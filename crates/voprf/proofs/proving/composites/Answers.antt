use Rattle.std.proofs.Common.{arith}
use Rattle.std.proofs.lemmas.Bool.Decides.{nat_tests}
use Rattle.voprf.specs.Proving.{composites}
use Rattle.voprf.proofs.proving.composites.Goals as goal

pub returns-then-sent-count : goal.returns-then-sent-count
unfolding composites
returns-then-sent-count g c = let e = c.element_width-width.ensures in grind (arith, nat_tests)

pub returns : goal.returns
unfolding composites
returns g c = let e = c.element_width-width.ensures in grind (arith, nat_tests)
