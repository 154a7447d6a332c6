use Rattle.std.proofs.Common.{sym, ◌∙◌}
use Rattle.chains.specs.Meant.{length_pairs}
use Rattle.chained.specs.Layout.{table_of}
use Rattle.chained.proofs.chained_book.methods.ChainedBookBook.size.Goals as goal

pub returns : goal.returns
returns c =
    let b = c.args.self.now in
    c.count.ensures ∙ b.counted.0 ∙ sym (length_pairs (table_of b.rows.capacity b.rows.memory.now))
