use Rattle.std.proofs.Common.{◌+◌, sym, ap, ◌∙◌, length, arith}
use Rattle.std.proofs.lemmas.Bool.Decides.{not_from_Decides}
use Rattle.chains.specs.Tables.{Entry}
use Rattle.book.specs.Words.{word}
use Rattle.chained.specs.Facts.{room_fits}
use Rattle.chained.proofs.Writes.{read_record, read_none}
use Rattle.chained.proofs.rows.records.RowsRecords.epoch.Goals as goal

pub word_at-requires : goal.word_at-requires
word_at-requires c =
    let b = c.args.self.now in
    let fits = room_fits (length b.memory.now) b.capacity b.room in
    let some = c.has.ensures.0 c.if-not-has.false in
    omega arith

pub returns-then-not-has : goal.returns-then-not-has
returns-then-not-has c =
    let none = not_from_Decides c.has.result c.has.ensures c.if-not-has.true in
    sym (ap (λ (e : Entry). e.epoch) (read_none c.args.self.now.capacity c.args.self.now.memory.now c.args.number (λ lo hi. none (lo, hi))))

pub returns : goal.returns
returns c =
    let some = c.has.ensures.0 c.if-not-has.false in
    c.word_at.ensures ∙ ap (λ x. word c.args.self.now.memory.now (x + 2)) c.start.ensures
    ∙ sym (ap (λ (e : Entry). e.epoch) (read_record c.args.self.now.capacity c.args.self.now.memory.now c.args.number some.0 some.1))
