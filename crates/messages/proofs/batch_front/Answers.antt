use Rattle.std.proofs.Common.{sym, ◌∙◌, arith}
use Rattle.std.proofs.lemmas.Result.{err_from_is_err_and}
use Rattle.messages.proofs.Reading.{counted, uncounted, front_short, front_other, front_uncounted, front_whole}
use Rattle.messages.proofs.batch_front.Goals as goal

pub returns-in_err-front : goal.returns-in_err-front
returns-in_err-front g c =
    let p = err_from_is_err_and c.from_residual.result c.from_residual.ensures.1 in
    rw (p.1, p.2) (sym (front_short g.G.Group.model c.args.message.now c.in_err-front.field-0.0 (sym c.in_err-front.ensures)))

pub returns-then-front-kind : goal.returns-then-front-kind
returns-then-front-kind g c =
    sym (front_other g.G.Group.model c.args.message.now c.in_ok-front.front c.in_ok-front.rest.now (sym c.in_ok-front.ensures)
    (λ k. c.if-front-kind.true (k ∙ sym c.kind.ensures)))

pub returns-then-front-eq0 : goal.returns-then-front-eq0
returns-then-front-eq0 g c =
    sym (front_uncounted g.G.Group.model c.args.message.now c.in_ok-front.front c.in_ok-front.rest.now (sym c.in_ok-front.ensures)
    (c.if-front-kind.false ∙ c.kind.ensures)
    (uncounted c.in_ok-front.front.count c.then-front-eq0.either))

pub returns : goal.returns
returns g c =
    sym (front_whole g.G.Group.model c.args.message.now c.in_ok-front.front c.in_ok-front.rest.now (sym c.in_ok-front.ensures)
    (c.if-front-kind.false ∙ c.kind.ensures)
    (counted c.in_ok-front.front.count (omega arith) (omega arith)))
