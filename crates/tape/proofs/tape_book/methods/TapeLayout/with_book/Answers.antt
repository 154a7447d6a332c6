use Rattle.std.proofs.Common.{◌≡◌, length, Ok, sym, ◌∙◌, subst}
use Rattle.book.specs.Making.{Worked}
use Rattle.tape.specs.Layout.{room_in}
use Rattle.tape.specs.Books.{meaning_of}
use Rattle.tape.proofs.tape_book.methods.TapeLayout.with_book.Goals as goal

pub returns-clause-answer : goal.returns-clause-answer
returns-clause-answer g c =
    let fits : Ok c.in_ok-capacity.capacity ≡ room_in (length c.args.memory.now) = sym c.in_ok-capacity.was ∙ c.capacity_in.ensures.answer in
    let made = c.over.ensures in
    subst (λ r. Worked (g.W.Work.told c.args.work) r (Ok c.on.result)) fits (meaning_of c.over.result, (made.pairs, made.capacity), c.on.ensures)
