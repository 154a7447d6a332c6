use Rattle.std.proofs.Common.{◌*◌, take, Ok, vec_items, sym, ap, ◌∙◌, arith}
use Rattle.std.proofs.lemmas.List.{with_items_is}
use Rattle.script.specs.Reports.{bytes}
use Rattle.counter.specs.Orders.{waiting, Waiting}
use Rattle.counter.proofs.Turns.{finish_says}
use Rattle.counter.proofs.orders.finish.Goals as goal

pub returns-in-Ok : goal.returns-in-Ok
returns-in-Ok c =
    let told = c.in-Ok.ensures in
    finish_says c.args.kind c.args.buffers.scratch c.args.buffers.outlet c.args.order.pk.now c.args.order.seeds.now c.args.order.blinds.now c.args.reply.now
    (waiting c.args.pending.now) _ _ c.in-Some.batch c.in-Ok.count c.as_mut_slice-2.result.now c.finish_in.new.outlet (vec_items c.truncate.new.self)
    (ap waiting (sym c.in-Some.ensures.value))
    (c.as_mut_slice.ensures.len ∙ c.in_ok-scratch.ensures.len)
    (c.as_mut_slice-2.ensures.len ∙ c.in_ok-outlet.ensures.len)
    told.answer told.outlet
    (c.truncate.ensures.items ∙ ap (take (132 * c.in-Ok.count)) (with_items_is c.in_ok-outlet.outlet c.finish_in.new.outlet (omega arith)))
    ∙ ap (λ (w : Waiting). (Ok (Ok (bytes (vec_items c.truncate.new.self))), w)) (sym (ap waiting c.in-Some.ensures.after))
