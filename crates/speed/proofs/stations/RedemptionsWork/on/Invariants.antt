use Rattle.std.proofs.Common.{◌≡◌, ◌*◌, ◌/◌, ◌≤◌, length}
use Rattle.speed.proofs.stations.RedemptionsWork.on.Given as goal

abbrev pub invariant-loop : goal.invariant-loop
invariant-loop g l = (length l.scratch ≡ 1024) × (l.accepted ≤ l.counter * (length l.self.tokens.now / 132))
