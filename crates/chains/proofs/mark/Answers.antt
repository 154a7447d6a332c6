use Rattle.std.proofs.Common.{◌∙◌, arith}
use Rattle.std.proofs.lemmas.Bool.Decides.{not_from_Decides}
use Rattle.chains.proofs.Steps.{marked_by}
use Rattle.chains.proofs.mark.Goals as goal

pub returns : goal.returns
returns g c = record {
  table = (
    not_from_Decides c.find.result c.find.ensures c.if-find.false,
    omega arith,
    marked_by (g.R.Records.table c.args.records.now) _ _ _ _ (c.args.epoch, c.args.nonce.now) _ _ _ _ _
        c.head-number.ensures c.chain_of-chain.ensures c.next-free.ensures c.head-first.ensures c.count-size.ensures
        c.put.ensures.table c.put_head.ensures.table c.put_head-2.ensures.table c.put_count.ensures.table,
  );
  beside = c.put_count.ensures.beside ∙ c.put_head-2.ensures.beside ∙ c.put_head.ensures.beside ∙ c.put.ensures.beside;
}
