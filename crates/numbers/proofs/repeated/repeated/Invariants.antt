use Rattle.numbers.specs.Repeated.{repeated}
use Rattle.numbers.proofs.Doubling.{Makes}
use Rattle.numbers.proofs.repeated.repeated.Given as goal

abbrev pub invariant-loop-left : goal.invariant-loop-left
invariant-loop-left g l = let m = g.J.Join in Makes m.nothing m.joined l.total l.left l.doubled (repeated m.nothing m.joined l.initial.left l.initial.doubled)

abbrev pub decreases-loop-left : goal.decreases-loop-left
decreases-loop-left g l = l.left
