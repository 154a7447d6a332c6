use Rattle.std.proofs.Common.{ℕ, ◌*◌, sym, ap, ◌∙◌}
use Rattle.std.proofs.lemmas.Result.{err_from_is_err_and}
use Rattle.messages.proofs.Reading.{request_refused, request_wrong, request_whole}
use Rattle.messages.proofs.read_request.Goals as goal

pub returns-in_err-front : goal.returns-in_err-front
returns-in_err-front g c =
    let p = err_from_is_err_and c.from_residual.result c.from_residual.ensures.1 in
    rw (p.1, p.2) (sym (request_refused g.G.Group.model c.args.message.now c.in_err-front.field-0.0 (sym c.in_err-front.ensures)))

pub returns-then-rest-front : goal.returns-then-rest-front
returns-then-rest-front g c =
    let n = c.in_ok-front.front.count in
    sym (request_wrong g.G.Group.model c.args.message.now c.in_ok-front.front c.in_ok-front.rest.now (sym c.in_ok-front.ensures)
    (λ l. c.if-rest-front.true (l ∙ ap (λ (w : ℕ). n * w) (sym c.element_width.ensures))))

pub returns : goal.returns
returns g c =
    let n = c.in_ok-front.front.count in
    sym (request_whole g.G.Group.model c.args.message.now c.in_ok-front.front c.in_ok-front.rest.now (sym c.in_ok-front.ensures)
    (c.if-rest-front.false ∙ ap (λ (w : ℕ). n * w) c.element_width.ensures))
