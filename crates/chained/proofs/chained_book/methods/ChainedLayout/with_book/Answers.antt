use Rattle.std.proofs.Common.{◌≡◌, length, Ok, sym, ◌∙◌, subst}
use Rattle.book.specs.Making.{Worked}
use Rattle.chained.specs.Layout.{room_in}
use Rattle.chained.specs.Facts.{places_is}
use Rattle.chained.specs.Books.{meaning_of}
use Rattle.chained.proofs.chained_book.methods.ChainedLayout.with_book.Goals as goal

pub returns-clause-answer : goal.returns-clause-answer
returns-clause-answer g c =
    let fits : Ok c.in_ok-capacity.capacity ≡ room_in (length c.args.memory.now) = sym c.in_ok-capacity.was ∙ c.capacity_in.ensures.answer in
    let made = c.over.ensures in
    let b = c.over.result in
    subst (λ r. Worked (g.W.Work.told c.args.work) r (Ok c.on.result)) fits
    (meaning_of b, (made.pairs, places_is b.rows.capacity b.rows.memory.now ∙ made.capacity), c.on.ensures)
