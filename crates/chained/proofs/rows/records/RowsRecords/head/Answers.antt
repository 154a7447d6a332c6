use Rattle.std.proofs.Common.{sym, ◌∙◌, arith}
use Rattle.chained.proofs.Writes.{read_head, read_no_head}
use Rattle.chained.proofs.rows.records.RowsRecords.head.Goals as goal

pub returns-then-chain-gt-CHAINS : goal.returns-then-chain-gt-CHAINS
returns-then-chain-gt-CHAINS c = sym (read_no_head c.args.self.now.capacity c.args.self.now.memory.now c.args.chain (omega arith))

pub returns : goal.returns
returns c = c.word_at.ensures ∙ sym (read_head c.args.self.now.capacity c.args.self.now.memory.now c.args.chain (omega arith))
