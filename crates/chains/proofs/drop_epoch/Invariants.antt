use Rattle.std.proofs.Common.{◌≡◌, ◌-◌}
use Rattle.chains.specs.Tables.{dropped, swept_from}
use Rattle.chains.proofs.drop_epoch.Given as goal

-- the chains that are left make the same of the table as all of them
abbrev pub invariant-loop-chain : goal.invariant-loop-chain
invariant-loop-chain g l =
    (swept_from l.epoch l.chain (64 - l.chain) (g.R.Records.table l.records) ≡ dropped l.epoch (g.R.Records.table l.initial.records))
    × (g.R.RecordsMut.beside l.records ≡ g.R.RecordsMut.beside l.initial.records)
