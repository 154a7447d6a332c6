-- What a chained book means.
use Rattle.std.specs.Prelude.{length}
use Rattle.book.specs.Meaning.{Meaning}
use Rattle.chains.specs.Tables.{Table}
use Rattle.chains.specs.Chains.{Sound}
use Rattle.chains.specs.Meant.{meant}
use Rattle.chained.specs.declared.chained_book.ChainedBook.{ChainedBook}
use Rattle.chained.specs.Layout.{table_of}
use Rattle.chained.specs.Facts.{some_places, few_places}

-- the table in its memory
abbrev pub table_in : ChainedBook → Table
table_in b = table_of b.rows.capacity b.rows.memory.now

pub sound_in : (b : ChainedBook) → Sound (table_of b.rows.capacity b.rows.memory.now)
sound_in b = (b.shaped, b.ended, b.within, b.placed, b.unfree, (b.epochless, b.nonceless), b.counted, b.apart)

-- the pairs in its chains, and its capacity
abbrev pub meaning_of : ChainedBook → Meaning
meaning_of b =
    let m = b.rows.memory.now in
    meant (table_of b.rows.capacity m) (sound_in b) (some_places b.rows.capacity (length m) m b.rows.room) (few_places b.rows.capacity (length m) m b.rows.room)
