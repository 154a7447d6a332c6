use Rattle.std.proofs.Common.{◌≡◌, ◌≤◌, length}
use Rattle.speed.proofs.stations.IssuesWork.on.Given as goal

abbrev pub invariant-loop : goal.invariant-loop
invariant-loop g l = (length l.scratch ≡ 1024) × (length l.reply ≡ 137) × (l.accepted ≤ l.counter)
