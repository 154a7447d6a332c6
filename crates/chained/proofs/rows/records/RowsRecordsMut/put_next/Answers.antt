use Rattle.std.proofs.Common.{ℕ, List, length, refl, ap, arith}
use Rattle.std.proofs.lemmas.Bool.Decides.{not_from_Decides}
use Rattle.chained.specs.Facts.{room_fits}
use Rattle.chained.proofs.Writes.{next_written, no_record}
use Rattle.chained.proofs.rows.records.RowsRecordsMut.put_next.Goals as goal

pub put_word-requires : goal.put_word-requires
put_word-requires c =
    let b = c.args.self.now in
    let fits = room_fits (length b.memory.now) b.capacity b.room in
    let some = c.has.ensures.0 c.if-has.true in
    omega arith

pub returns-then-has : goal.returns-then-has
returns-then-has c =
    let b = c.args.self.now in
    let fits = room_fits (length b.memory.now) b.capacity b.room in
    let some = c.has.ensures.0 c.if-has.true in
    let w = next_written b.capacity b.memory.now c.put_word.new.m c.args.number c.args.next _ fits.2 c.put_word.auto.m some.0 some.1 c.start.ensures
    c.put_word.ensures.there c.put_word.ensures.others c.put_word.ensures.bytes in
    record { table = w.table; beside = ap (λ (l : List ℕ). (b.memory.ghost_name, l)) w.later }

pub returns-else-has : goal.returns-else-has
returns-else-has c =
    let none = not_from_Decides c.has.result c.has.ensures c.if-has.false in
    record { table = no_record c.args.self.now.capacity c.args.self.now.memory.now c.args.number _ (λ lo hi. none (lo, hi)); beside = refl }
