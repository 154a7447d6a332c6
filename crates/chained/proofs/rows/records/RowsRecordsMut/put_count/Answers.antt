use Rattle.std.proofs.Common.{ℕ, List, length, refl, ap}
use Rattle.chained.specs.Facts.{room_fits}
use Rattle.chained.proofs.Writes.{size_written}
use Rattle.chained.proofs.rows.records.RowsRecordsMut.put_count.Goals as goal

pub returns : goal.returns
returns c =
    let b = c.args.self.now in
    let fits = room_fits (length b.memory.now) b.capacity b.room in
    let w = size_written b.capacity b.memory.now c.put_word.new.m 130 c.args.count fits.2 c.put_word.auto.m
    c.put_word.ensures.there c.put_word.ensures.others c.put_word.ensures.bytes refl in
    record { table = w.table; beside = ap (λ (l : List ℕ). (b.memory.ghost_name, l)) w.later }
