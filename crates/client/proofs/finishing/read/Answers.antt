use Rattle.std.proofs.Common.{sym, ◌∙◌}
use Rattle.std.proofs.lemmas.Result.{err_from_is_err_and}
use Rattle.client.proofs.Replies.{reply_short, reply_mislong, other_kind, other_epoch, other_count, reply_fits}
use Rattle.client.proofs.finishing.read.Goals as goal

pub returns-in_err-front : goal.returns-in_err-front
returns-in_err-front g c =
    let p = err_from_is_err_and c.from_residual.result c.from_residual.ensures.1 in
    rw (p.1, p.2) (sym (reply_short g.G.Group.model c.args.epoch c.args.count c.args.reply.now c.in_err-front.field-0.0 (sym c.in_err-front.ensures)))

pub returns-in_err-items : goal.returns-in_err-items
returns-in_err-items g c =
    let p = err_from_is_err_and c.from_residual-in_err-items.result c.from_residual-in_err-items.ensures.1 in
    rw (p.1, p.2) (sym (reply_mislong g.G.Group.model c.args.epoch c.args.count c.args.reply.now c.in_ok-front.front c.in_ok-front.rest.now
    (sym c.in_ok-front.ensures) c.in_err-items.field-0.0 (sym c.in_err-items.ensures)))

pub returns-then-front-kind : goal.returns-then-front-kind
returns-then-front-kind g c =
    rw c.into.ensures (sym (other_kind g.G.Group.model c.args.epoch c.args.count c.args.reply.now c.in_ok-front.front c.in_ok-front.rest.now
    (sym c.in_ok-front.ensures) (c.in_ok-items.items.now, c.in_ok-items.challenge.now, c.in_ok-items.response.now)
    (sym c.in_ok-items.ensures)
    (λ k. c.if-front-kind.true (k ∙ sym c.kind.ensures))))

pub returns-then-front-epoch : goal.returns-then-front-epoch
returns-then-front-epoch g c =
    rw c.into-then-front-epoch.ensures (sym (other_epoch g.G.Group.model c.args.epoch c.args.count c.args.reply.now c.in_ok-front.front c.in_ok-front.rest.now
    (sym c.in_ok-front.ensures) (c.in_ok-items.items.now, c.in_ok-items.challenge.now, c.in_ok-items.response.now)
    (sym c.in_ok-items.ensures)
    (c.if-front-kind.false ∙ c.kind.ensures) c.if-front-epoch.true))

pub returns-then-front-count : goal.returns-then-front-count
returns-then-front-count g c =
    rw c.into-then-front-count.ensures (sym (other_count g.G.Group.model c.args.epoch c.args.count c.args.reply.now c.in_ok-front.front c.in_ok-front.rest.now
    (sym c.in_ok-front.ensures) (c.in_ok-items.items.now, c.in_ok-items.challenge.now, c.in_ok-items.response.now)
    (sym c.in_ok-items.ensures)
    (c.if-front-kind.false ∙ c.kind.ensures) c.if-front-epoch.false c.if-front-count.true))

pub returns : goal.returns
returns g c =
    sym (reply_fits g.G.Group.model c.args.epoch c.args.count c.args.reply.now c.in_ok-front.front c.in_ok-front.rest.now
    (sym c.in_ok-front.ensures) (c.in_ok-items.items.now, c.in_ok-items.challenge.now, c.in_ok-items.response.now)
    (sym c.in_ok-items.ensures)
    (c.if-front-kind.false ∙ c.kind.ensures) c.if-front-epoch.false c.if-front-count.false)
