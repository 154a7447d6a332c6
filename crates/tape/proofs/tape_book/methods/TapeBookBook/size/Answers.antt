use Rattle.std.proofs.Common.{sym, ◌∙◌}
use Rattle.tape.specs.Facts.{size_is}
use Rattle.tape.proofs.tape_book.methods.TapeBookBook.size.Goals as goal

pub returns : goal.returns
returns c = c.word_at.ensures ∙ sym (size_is c.args.self.now.memory.now)
