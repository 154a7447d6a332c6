use Rattle.std.proofs.Common.{◌-◌}
use Rattle.chains.specs.Calls.{Chained}
use Rattle.chains.proofs.Steps.{Ahead}
use Rattle.chains.proofs.find.Given as goal

-- the pair is in the chain where it is in what is left of it
abbrev pub invariant-loop : goal.invariant-loop
invariant-loop g l =
    (Ahead (g.R.Records.table l.records) (l.end - l.counter) l.number (l.epoch, l.nonce) → Chained (g.R.Records.table l.records) (l.epoch, l.nonce))
    × (Chained (g.R.Records.table l.records) (l.epoch, l.nonce) → Ahead (g.R.Records.table l.records) (l.end - l.counter) l.number (l.epoch, l.nonce))
