use Rattle.std.proofs.Common.{sym}
use Rattle.chained.specs.Facts.{places_is}
use Rattle.chained.proofs.chained_book.methods.ChainedBookBook.capacity.Goals as goal

pub returns : goal.returns
returns c = sym (places_is c.args.self.now.rows.capacity c.args.self.now.rows.memory.now)
