use Rattle.std.proofs.Common.{◌≡◌, ℕ, ◌<◌, length, get_or, replicate}
use Rattle.chains.specs.Tables.{blank}
use Rattle.chains.proofs.Steps.{chained_below}
use Rattle.chains.proofs.clear.Given as goal

-- the records below the number are chained, and nothing else has changed since all was zero
abbrev pub invariant-loop-number : goal.invariant-loop-number
invariant-loop-number g l =
    ((g.R.Records.table l.records).heads ≡ replicate 65 0)
    × ((g.R.Records.table l.records).size ≡ 0)
    × (length (g.R.Records.table l.records).entries ≡ length (g.R.Records.table l.initial.records).entries)
    × ((k : ℕ) → k < length (g.R.Records.table l.initial.records).entries → get_or (g.R.Records.table l.records).entries k blank ≡ chained_below l.number k)
    × (g.R.RecordsMut.beside l.records ≡ g.R.RecordsMut.beside l.initial.records)
