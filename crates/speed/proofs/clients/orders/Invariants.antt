use Rattle.std.proofs.Common.{◌≡◌, ◌≤◌, length}
use Rattle.speed.proofs.clients.orders.Given as goal

abbrev pub invariant-loop : goal.invariant-loop
invariant-loop g l = (length l.scratch ≡ 1024) × (l.done ≤ l.counter)
