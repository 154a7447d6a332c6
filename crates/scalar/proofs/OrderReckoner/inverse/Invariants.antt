use Rattle.std.proofs.Common.{◌≡◌, ◌*◌, ◌%◌, ◌<◌}
use Rattle.scalar.proofs.OrderReckoner.inverse.Given as goal

abbrev pub invariant-loop-a : goal.invariant-loop-a
invariant-loop-a g l = (0 < l.a) × (l.a < g.row.Q) × (l.m < g.row.Q) × ((l.initial.a * l.m) % g.row.Q ≡ l.a)

abbrev pub decreases-loop-a : goal.decreases-loop-a
decreases-loop-a g l = l.a
