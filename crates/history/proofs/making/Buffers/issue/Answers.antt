use Rattle.std.proofs.Common.{◌≡◌, Err, length, ap, ◌∙◌, rules}
use Rattle.std.proofs.lemmas.Result.{err_from_is_err_and}
use Rattle.ring.specs.Places.{places, key_in}
use Rattle.history.specs.Events.{told}
use Rattle.history.specs.Law.{bytes_told}
use Rattle.history.proofs.Lengths.{issue_bounded, lent, laid_told, fault_told}
use Rattle.history.proofs.making.Buffers.issue.Goals as goal

pub returns : goal.returns
returns g c =
    let long : length c.args.self.now.scratch ≡ 1024 = search rules in
    let wide : length c.args.self.now.outlet ≡ 137 = search rules in
    let e = c.in_ok-len.ensures in
    laid_told _ c.in_ok-len.len _ c.issue.new.outlet _ e.answer e.outlet
    ∙ ap bytes_told (issue_bounded g.G.Group.model c.args.scratch c.args.outlet _ _ (key_in (places c.args.station.now.ring)) c.args.request.now c.args.nonce.now
    (lent c.args.scratch c.min.result 1024 c.args.self.now.scratch long c.min.ensures)
    (lent c.args.outlet c.min-2.result 137 c.args.self.now.outlet wide c.min-2.ensures))

pub returns-in_err-len : goal.returns-in_err-len
returns-in_err-len g c =
    let long : length c.args.self.now.scratch ≡ 1024 = search rules in
    let wide : length c.args.self.now.outlet ≡ 137 = search rules in
    let p = err_from_is_err_and c.from_residual.result c.from_residual.ensures.1 in
    let e = c.in_err-len.ensures in
    ap told (p.1 ∙ ap (λ f. Err f) p.2) ∙ fault_told _ c.in_err-len.field-0.0 e.answer
    ∙ ap bytes_told (issue_bounded g.G.Group.model c.args.scratch c.args.outlet _ _ (key_in (places c.args.station.now.ring)) c.args.request.now c.args.nonce.now
    (lent c.args.scratch c.min.result 1024 c.args.self.now.scratch long c.min.ensures)
    (lent c.args.outlet c.min-2.result 137 c.args.self.now.outlet wide c.min-2.ensures))
