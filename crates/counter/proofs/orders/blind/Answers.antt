use Rattle.std.proofs.Common.{take, Ok, vec_items, sym, ap, ◌∙◌, arith}
use Rattle.std.proofs.lemmas.List.{with_items_is}
use Rattle.script.specs.Reports.{bytes}
use Rattle.counter.specs.Orders.{waiting, Waiting}
use Rattle.counter.proofs.Turns.{none_waits, blind_says}
use Rattle.counter.proofs.orders.blind.Goals as goal

pub returns-in-Ok : goal.returns-in-Ok
returns-in-Ok c =
    let told = c.in-Ok.ensures in
    blind_says c.args.kind c.args.buffers.scratch c.args.buffers.outlet c.args.epoch c.args.order.pk.now c.args.order.seeds.now c.args.order.blinds.now
    (waiting c.args.pending.now) _ _ c.in-Ok.begun c.as_mut_slice-2.result.now c.begin_in.new.outlet (vec_items c.truncate.new.self)
    (none_waits c.args.pending.now (sym c.is_some.ensures ∙ c.if-is_some.false))
    (c.as_mut_slice.ensures.len ∙ c.in_ok-scratch.ensures.len)
    (c.as_mut_slice-2.ensures.len ∙ c.in_ok-outlet.ensures.len)
    told.answer told.outlet
    (c.truncate.ensures.items ∙ ap (take c.in-Ok.begun.1) (with_items_is c.in_ok-outlet.outlet c.begin_in.new.outlet (omega arith)))
    ∙ ap (λ (w : Waiting). (Ok (Ok (bytes (vec_items c.truncate.new.self))), w)) (sym (ap waiting c.put.ensures))
