use Rattle.std.proofs.Common.{◌≡◌, ◌-◌, length}
use Rattle.chains.specs.Tables.{head, swept}
use Rattle.chains.proofs.sweep.Given as goal

-- what is left of the sweep makes the same of the table as the whole of it
abbrev pub invariant-loop : goal.invariant-loop
invariant-loop g l =
    (swept l.epoch l.chain (l.end - l.counter) l.before l.number (g.R.Records.table l.records)
    ≡ swept l.epoch l.chain (length (g.R.Records.table l.initial.records).entries) 0 (head (g.R.Records.table l.initial.records) l.chain) (g.R.Records.table l.initial.records))
    × (g.R.RecordsMut.beside l.records ≡ g.R.RecordsMut.beside l.initial.records)
