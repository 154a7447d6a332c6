use Rattle.std.proofs.Common.{◌≤◌}
use Rattle.speed.proofs.stations.accepted_of.Given as goal

abbrev pub invariant-loop-token : goal.invariant-loop-token
invariant-loop-token g l = l.accepted ≤ l.token-index
