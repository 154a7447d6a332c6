use Rattle.std.proofs.Common.{sym}
use Rattle.std.proofs.lemmas.Result.{err_from_is_err_and}
use Rattle.messages.proofs.Reading.{reply_refused, reply_wrong, reply_whole}
use Rattle.messages.proofs.read_reply.Goals as goal

pub returns-in_err-front : goal.returns-in_err-front
returns-in_err-front g c =
    let p = err_from_is_err_and c.from_residual.result c.from_residual.ensures.1 in
    rw (p.1, p.2) (sym (reply_refused g.G.Group.model c.args.message.now c.in_err-front.field-0.0 (sym c.in_err-front.ensures)))

pub returns-in_err-items : goal.returns-in_err-items
returns-in_err-items g c =
    let p = err_from_is_err_and c.from_residual-in_err-items.result c.from_residual-in_err-items.ensures.1 in
    rw (p.1, p.2)
    (sym (reply_wrong g.G.Group.model c.args.message.now c.in_ok-front.front c.in_ok-front.rest.now (sym c.in_ok-front.ensures)
    c.in_err-items.field-0.0 (sym c.in_err-items.ensures)))

pub returns : goal.returns
returns g c =
    sym (reply_whole g.G.Group.model c.args.message.now c.in_ok-front.front c.in_ok-front.rest.now (sym c.in_ok-front.ensures)
    c.in_ok-items.items.now c.in_ok-items.challenge.now c.in_ok-items.response.now (sym c.in_ok-items.ensures))
