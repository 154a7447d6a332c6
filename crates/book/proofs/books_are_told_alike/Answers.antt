use Rattle.book.proofs.Facts.{told_alike}
use Rattle.book.proofs.books_are_told_alike.Goals as goal

pub returns : goal.returns
returns c = told_alike
