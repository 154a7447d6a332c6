use Rattle.std.proofs.Common.{length, refl}
use Rattle.chained.specs.Facts.{room_fits}
use Rattle.chained.proofs.Images.{one_image}
use Rattle.chained.proofs.chained_book.ChainedBook.memory.Goals as goal

pub returns : goal.returns
returns c =
    let b = c.args.self.now.rows in
    let m = b.memory.now in
    record { bytes = refl; image = one_image b.capacity m (room_fits (length m) b.capacity b.room).2 b.bytes }
