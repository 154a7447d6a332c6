use Rattle.std.proofs.Common.{sym, ◌∙◌}
use Rattle.counter.proofs.Lengths.{request_long}
use Rattle.counter.proofs.Turns.{begins}
use Rattle.counter.proofs.orders.begin.Goals as goal

pub returns : goal.returns
returns g c =
    let told = c.in_ok-batch.ensures in
    record {
      answer = begins _ c.args.epoch _ c.in_ok-batch.batch _ told.answer (λ request e. c.request_len.ensures ∙ sym (request_long g.G.Group.model _ _ _ _ _ request _ e));
      outlet = told.outlet;
    }
