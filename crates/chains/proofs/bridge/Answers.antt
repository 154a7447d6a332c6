use Rattle.std.proofs.Common.{eqb, sym, ◌∙◌}
use Rattle.std.proofs.lemmas.Bool.{cond-true, cond-false, eq-eqb, ne_eqb}
use Rattle.chains.specs.Tables.{bridged, with_head, with_next}
use Rattle.chains.proofs.bridge.Goals as goal

pub returns-then-before-eq0 : goal.returns-then-before-eq0
unfolding bridged
returns-then-before-eq0 g c =
    let t = g.R.Records.table c.args.records.now in
    record {
      table = c.put_head.ensures.table ∙ sym (cond-true (eqb c.args.before 0) (with_head t c.args.chain c.args.rest) (with_next t c.args.before c.args.rest) (eq-eqb c.args.before 0 c.if-before-eq0.true));
      beside = c.put_head.ensures.beside;
    }

pub returns-else-before-eq0 : goal.returns-else-before-eq0
unfolding bridged
returns-else-before-eq0 g c =
    let t = g.R.Records.table c.args.records.now in
    record {
      table = c.put_next.ensures.table ∙ sym (cond-false (eqb c.args.before 0) (with_head t c.args.chain c.args.rest) (with_next t c.args.before c.args.rest) (ne_eqb c.args.before 0 c.if-before-eq0.false));
      beside = c.put_next.ensures.beside;
    }
