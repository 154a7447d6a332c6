use Rattle.std.proofs.Common.{ℕ, List, length, ap}
use Rattle.chained.specs.Facts.{room_fits}
use Rattle.chained.proofs.rows.records.RowsRecordsMut.wipe.Goals as goal

pub wipe-requires : goal.wipe-requires
wipe-requires c = let b = c.args.self.now in (room_fits (length b.memory.now) b.capacity b.room).2

pub returns : goal.returns
returns c =
    let b = c.args.self.now in
    let w = c.wipe.ensures in
    record { table = w.table; beside = ap (λ (l : List ℕ). (b.memory.ghost_name, l)) w.later }
