use Rattle.std.proofs.lemmas.Bool.Decides.{Decides-like}
use Rattle.chains.proofs.Meanings.{found}
use Rattle.chained.specs.Layout.{table_of}
use Rattle.chained.specs.Books.{sound_in}
use Rattle.chained.proofs.chained_book.methods.ChainedBookBook.has.Goals as goal

pub returns : goal.returns
returns c =
    let b = c.args.self.now in
    let f = found (table_of b.rows.capacity b.rows.memory.now) (c.args.epoch, c.args.nonce.now) (sound_in b) in
    Decides-like c.find.result f.0 f.1 c.find.ensures
