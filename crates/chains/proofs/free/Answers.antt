use Rattle.std.proofs.Common.{refl, ◌∙◌}
use Rattle.chains.proofs.Steps.{freed_by}
use Rattle.chains.proofs.free.Goals as goal

pub returns : goal.returns
returns g c = record {
  table = freed_by (g.R.Records.table c.args.records.now) _ _ _ c.args.number _ _ _ _ refl c.head-first.ensures c.count-size.ensures c.saturating_sub.ensures
      c.put.ensures.table c.put_head.ensures.table c.put_count.ensures.table;
  beside = c.put_count.ensures.beside ∙ c.put_head.ensures.beside ∙ c.put.ensures.beside;
}
