use Rattle.std.proofs.Common.{◌≡◌, length, vec_items, sym, ◌∙◌, arith}
use Rattle.std.proofs.lemmas.List.{with_items_is}
use Rattle.counter.proofs.Telling.{replayed, popped_none}
use Rattle.counter.proofs.ledger.ReplayWork.on.Goals as goal

pub returns : goal.returns
returns g c =
    let all = c.run.new.outcomes in
    let whole = with_items_is c.in_ok-outcomes.outcomes all (omega arith) in
    let kept : length all ≡ c.in_ok-outcomes.outcomes.len = omega arith in
    replayed c.args.self.kind c.args.self.calls.now (g.B.Book.meaning c.args.book).capacity all (vec_items c.pop.new.self) c.pop.result
    c.run.ensures (kept ∙ c.in_ok-outcomes.ensures.len) (sym whole ∙ c.pop.ensures.items)
    (λ e. kept ∙ popped_none c.pop.result _ _ c.pop.ensures.cases e)
