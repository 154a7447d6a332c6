use Rattle.std.proofs.Common.{sym, ap, ◌∙◌, subst}
use Rattle.circle.specs.Circle.{Member, mapped_pair}
use Rattle.circle.proofs.Fourfold.{mapped_member}
use Rattle.circ523.specs.Elements.{mapped_point}
use Rattle.circ523.specs.Laws.{same_point}
use Rattle.circ523.proofs.PointGroup.map.Goals as goal

pub invariant_of-result : goal.invariant_of-result
invariant_of-result c = record { member = subst Member (sym c.mapped.ensures) (mapped_member c.leading_word.result) }

pub returns : goal.returns
unfolding mapped_point
returns c = same_point _ _ (c.mapped.ensures ∙ ap mapped_pair c.leading_word.ensures)
