use Rattle.std.proofs.Common.{◌≡◌, ◌-◌, ◌*◌, ◌≤◌, length}
use Rattle.std.specs.Slice.Iter.{chunks_exact_rest, chunks_exact_size}
use Rattle.group.specs.Elements.{null}
use Rattle.voprf.specs.Proving.{steps}
use Rattle.voprf.proofs.proving.sum_items.Given as goal

-- what is left of the two rows are the codes of the items that are left
abbrev pub invariant-loop-place : goal.invariant-loop-place
invariant-loop-place g l = record {
  end : l.place-iterator.a.end ≡ l.count;
  within : l.place-iterator.a.start ≤ l.count;
  wide_sent : chunks_exact_size l.place-iterator.b.a ≡ g.G.Group.model.element_width;
  wide_got : chunks_exact_size l.place-iterator.b.b ≡ g.G.Group.model.element_width;
  sent : length (chunks_exact_rest l.place-iterator.b.a) ≡ (l.count - l.place-iterator.a.start) * g.G.Group.model.element_width;
  got : length (chunks_exact_rest l.place-iterator.b.b) ≡ (l.count - l.place-iterator.a.start) * g.G.Group.model.element_width;
  sums :
      steps g.G.Group.model l.seed l.place-iterator.a.start (l.count - l.place-iterator.a.start) (chunks_exact_rest l.place-iterator.b.a)
      (chunks_exact_rest l.place-iterator.b.b) l.sums
      ≡ steps g.G.Group.model l.seed 0 l.count l.sent l.got (null g.G.Group.model, null g.G.Group.model);
}
