use Rattle.book.proofs.Worked.{one_place}
use Rattle.book.proofs.one_place_is_worked.Goals as goal

pub returns : goal.returns
returns c = one_place
