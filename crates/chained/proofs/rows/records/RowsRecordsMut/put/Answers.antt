use Rattle.std.proofs.Common.{ℕ, List, length, refl, ap, arith}
use Rattle.std.proofs.lemmas.Bool.Decides.{not_from_Decides}
use Rattle.chained.specs.Facts.{room_fits}
use Rattle.chained.proofs.Writes.{put_written, no_record}
use Rattle.chained.proofs.rows.records.RowsRecordsMut.put.Goals as goal

pub put_word-requires : goal.put_word-requires
put_word-requires c =
    let b = c.args.self.now in
    let fits = room_fits (length b.memory.now) b.capacity b.room in
    let some = c.has.ensures.0 c.if-has.true in
    omega arith

pub put_word-requires-then-has : goal.put_word-requires-then-has
put_word-requires-then-has c =
    let b = c.args.self.now in
    let fits = room_fits (length b.memory.now) b.capacity b.room in
    let some = c.has.ensures.0 c.if-has.true in
    omega arith

pub put_nonce-requires : goal.put_nonce-requires
put_nonce-requires c =
    let b = c.args.self.now in
    let fits = room_fits (length b.memory.now) b.capacity b.room in
    let some = c.has.ensures.0 c.if-has.true in
    omega arith

pub returns-then-has : goal.returns-then-has
returns-then-has c =
    let b = c.args.self.now in
    let fits = room_fits (length b.memory.now) b.capacity b.room in
    let some = c.has.ensures.0 c.if-has.true in
    let next = c.put_word.ensures in
    let epoch = c.put_word-then-has.ensures in
    let nonce = c.put_nonce.ensures in
    let w = put_written b.capacity b.memory.now c.put_word.new.m c.put_word-then-has.new.m c.put_nonce.new.m
    c.args.number c.args.next c.args.epoch c.start-at.result c.args.nonce.now
    fits.2 c.put_word.auto.m c.put_word-then-has.auto.m c.put_nonce.auto.m some.0 some.1 c.start-at.ensures
    next.there next.others epoch.there epoch.others nonce.there nonce.others nonce.bytes in
    record { table = w.table; beside = ap (λ (l : List ℕ). (b.memory.ghost_name, l)) w.later }

pub returns-else-has : goal.returns-else-has
returns-else-has c =
    let none = not_from_Decides c.has.result c.has.ensures c.if-has.false in
    record { table = no_record c.args.self.now.capacity c.args.self.now.memory.now c.args.number _ (λ lo hi. none (lo, hi)); beside = refl }
