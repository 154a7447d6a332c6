use Rattle.std.specs.Slice.Iter.{iter_rest, chunks_exact_rest, chunks_exact_size}
use Rattle.std.specs.Iterator.Adapters.{enumerate_source, enumerate_count, zip_first, zip_second}
use Rattle.group.specs.Weighted.{weighted_sum}
use Rattle.group.proofs.Weighing.{Left}
use Rattle.group.proofs.weighted_sum.Given as goal

abbrev pub invariant-loop-i : goal.invariant-loop-i
invariant-loop-i g l =
    let m = g.G.Group.model in
    let items = enumerate_source l.i-iterator in
    Left m l.total (chunks_exact_size (zip_first items)) (enumerate_count l.i-iterator) (chunks_exact_rest (zip_first items)) (iter_rest (zip_second items))
    (weighted_sum m l.codes l.scalars)
