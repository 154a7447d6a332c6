use Rattle.std.proofs.Common.{sym, ◌∙◌}
use Rattle.chained.proofs.Writes.{read_size}
use Rattle.chained.proofs.rows.records.RowsRecords.count.Goals as goal

pub returns : goal.returns
returns c = c.word_at.ensures ∙ sym (read_size c.args.self.now.capacity c.args.self.now.memory.now)
