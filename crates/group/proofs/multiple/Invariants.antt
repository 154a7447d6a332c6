use Rattle.std.proofs.Common.{◌≡◌}
use Rattle.group.proofs.Logs.{above}
use Rattle.group.proofs.multiple.Given as goal

abbrev pub invariant-loop-place : goal.invariant-loop-place
invariant-loop-place g l = l.r ≡ above g.G.Group.model l.s l.p l.place
