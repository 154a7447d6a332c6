use Rattle.std.proofs.Common.{map, Ok, vec_items, ap, ◌∙◌}
use Rattle.counter.specs.Ledgers.{lent_of, seen}
use Rattle.counter.proofs.Telling.{line_served, line_unserved}
use Rattle.counter.proofs.ledger.Ledger.replay.Goals as goal

pub returns-in-Some : goal.returns-in-Some
returns-in-Some c =
    let self = c.args.self.now in
    line_served self.kind self.shelf self.length _ (map lent_of (vec_items self.entries)) c.as_slice.result.now c.in-Ok.told
    (c.as_mut_slice.ensures.len ∙ c.in_ok-memory.ensures.len)
    (ap (map seen) c.as_slice.ensures.value ∙ c.in_ok-calls.ensures)
    c.in-Ok.ensures c.in-Some.outcome c.answer.result (c.in_ok-outcome-in-Ok.was ∙ ap Ok c.in-Some.is) c.answer.ensures

pub returns-in-Ok : goal.returns-in-Ok
returns-in-Ok c =
    let self = c.args.self.now in
    line_unserved self.kind self.shelf self.length _ (map lent_of (vec_items self.entries)) c.as_slice.result.now c.in-Ok.told
    (c.as_mut_slice.ensures.len ∙ c.in_ok-memory.ensures.len)
    (ap (map seen) c.as_slice.ensures.value ∙ c.in_ok-calls.ensures)
    c.in-Ok.ensures _ (c.in_ok-outcome-in-Ok.was ∙ ap Ok c.in-None.is)
