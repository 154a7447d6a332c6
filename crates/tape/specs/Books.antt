-- What a tape means as a book.
use Rattle.std.proofs.Common.{arith}
use Rattle.book.specs.Meaning.{Meaning}
use Rattle.tape.specs.declared.tape_book.TapeBook.{TapeBook}
use Rattle.tape.specs.Layout.{pairs_of}
use Rattle.tape.specs.Facts.{room_fits, size_is, pairs_shaped}

-- the pairs that stand on it, and its capacity
abbrev pub meaning_of : TapeBook → Meaning
meaning_of b =
    let m = b.memory.now in
    let fits = room_fits m b.capacity b.room in
    record {
      pairs = pairs_of m;
      capacity = b.capacity;
      apart = b.apart;
      within = let w = b.within in omega (arith, size_is m);
      some = fits.0;
      small = let c = fits.1 in omega arith;
      shaped = pairs_shaped m b.capacity fits b.within;
    }
