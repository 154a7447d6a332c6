use Rattle.std.proofs.Common.{◌≡◌, ◌*◌, take}
use Rattle.std.specs.Iterator.Adapters.{zip_first, zip_second}
use Rattle.std.specs.Slice.Iter.{iter_rest, chunks_exact_rest, chunks_exact_size}
use Rattle.client.proofs.Walks.{Going}
use Rattle.client.proofs.items.Batch.walk.Given as goal

abbrev pub invariant-loop-i : goal.invariant-loop-i
invariant-loop-i g l = record {
  last : (zip_first (zip_first l.i-iterator)).end ≡ l.self.count;
  blind_wide : chunks_exact_size (zip_second l.i-iterator) ≡ g.G.Group.model.scalars.width;
  got_wide : chunks_exact_size l.answers ≡ g.G.Group.model.element_width;
  going : Going g.G.Group.model g.S.Step.made l.self.epoch l.self.id.now l.self.count l.self.seeds.now l.self.blinds.now l.self.answers.now
      (zip_first (zip_first l.i-iterator)).start (iter_rest (zip_second (zip_first l.i-iterator))) (chunks_exact_rest (zip_second l.i-iterator))
      (chunks_exact_rest l.answers) (take ((zip_first (zip_first l.i-iterator)).start * g.S.Step.wide) l.out);
}
