-- A token that may be redeemed, and whose pair the book then marks, is redeemed.
use Rattle.std.proofs.Common.{◌≡◌, Ok, Result, subst}
use Rattle.faults.specs.declared.StationFault.{StationFault}
use Rattle.book.specs.Meaning.{Pair, Meaning, Marked}
use Rattle.station.specs.Redeeming.{Redeems, Unasked}

pub redeems : (q : Result Pair StationFault) (p : Pair) (before after : Meaning) → Ok p ≡ q → Marked before p (Ok tt) after → Redeems q before (Ok tt) after
redeems q p before after e marked = let P : Result Pair StationFault → Type 0 = λ x. Redeems x before (Ok tt) after in subst P e marked

pub asked : {B : Type 0} (q : Result Pair StationFault) (p : Pair) (before after : B) → Ok p ≡ q → Unasked q before after
asked q p before after e = subst (λ x. Unasked x before after) e tt
