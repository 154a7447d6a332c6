use Rattle.std.proofs.Common.{ℕ, ◌+◌, ◌*◌, ◌%◌, ap, lit<}
use Rattle.std.proofs.lemmas.Nat.{mod_below}
use Rattle.res2039.specs.Powers2039.{square_member}
use Rattle.res2039.specs.Elements.{mapped}
use Rattle.res2039.specs.Laws.{same_value}
use Rattle.res2039.proofs.ResidueGroup.map.Goals as goal

pub invariant_of-result : goal.invariant_of-result
invariant_of-result c = record { member = square_member (c.leading_word.result % 2038) (mod_below c.leading_word.result 2038 (lit< tt)) }

pub returns : goal.returns
unfolding mapped
returns c = same_value _ _ (ap (λ (n : ℕ). (1 + n % 2038) * (1 + n % 2038) % 2039) c.leading_word.ensures)
