use Rattle.std.proofs.Common.{ℕ, List, length, refl, ap, arith}
use Rattle.chained.specs.Facts.{room_fits}
use Rattle.chained.proofs.Writes.{head_written, no_head}
use Rattle.chained.proofs.rows.records.RowsRecordsMut.put_head.Goals as goal

pub returns-then-chain-le-CHAINS : goal.returns-then-chain-le-CHAINS
returns-then-chain-le-CHAINS c =
    let b = c.args.self.now in
    let fits = room_fits (length b.memory.now) b.capacity b.room in
    let w = head_written b.capacity b.memory.now c.put_word.new.m _ c.args.number fits.2 c.put_word.auto.m
    c.put_word.ensures.there c.put_word.ensures.others c.put_word.ensures.bytes c.args.chain (omega arith) refl in
    record { table = w.table; beside = ap (λ (l : List ℕ). (b.memory.ghost_name, l)) w.later }

pub returns-else-chain-le-CHAINS : goal.returns-else-chain-le-CHAINS
returns-else-chain-le-CHAINS c = record { table = no_head c.args.self.now.capacity c.args.self.now.memory.now c.args.chain c.args.number (omega arith); beside = refl }
