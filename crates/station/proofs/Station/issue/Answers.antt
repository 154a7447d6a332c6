use Rattle.std.proofs.Common.{length, Err, sym, ap, ◌∙◌, rules}
use Rattle.std.proofs.lemmas.Result.{err_from_is_err_and}
use Rattle.ring.specs.Places.{places, key_in}
use Rattle.station.specs.Answers.{of_batch, counted, outlet_after}
use Rattle.station.specs.Issuing.{order, replied}
use Rattle.station.proofs.Replies.{issue_stops, issue_goes, same_count, same_outlet}
use Rattle.station.proofs.Station.issue.Goals as goal

pub returns-in_err-request : goal.returns-in_err-request
returns-in_err-request g c =
    let p = err_from_is_err_and c.from_residual.result c.from_residual.ensures.1 in
    let stop = issue_stops g.G.Group.model (length c.args.scratch.now) (key_in (places c.args.self.now.ring)) c.args.request.now c.args.nonce.now
    (length c.args.outlet.now) c.in_err-request.field-0.0 c.in_err-request.ensures.answer in
    record {
      answer = p.1 ∙ ap (λ e. Err e) p.2 ∙ sym (ap counted stop);
      outlet = sym (ap (λ r. outlet_after r c.args.outlet.now) stop);
      scratch = search rules;
    }

pub returns-in_err-len : goal.returns-in_err-len
returns-in_err-len g c =
    let m = g.G.Group.model in
    let p = err_from_is_err_and c.from_residual-in_err-len.result c.from_residual-in_err-len.ensures.1 in
    let o = order (c.in_ok-request.request, c.in_ok-request.key, c.in_ok-request.nonce) in
    let goes = issue_goes m (length c.args.scratch.now) (key_in (places c.args.self.now.ring)) c.args.request.now c.args.nonce.now
    (length c.args.outlet.now) o c.in_ok-request.ensures.answer in
    record {
      answer = p.1 ∙ ap (λ e. Err e) p.2 ∙ ap of_batch c.in_err-len.ensures.answer ∙ same_count (replied m o) ∙ sym (ap counted goes);
      outlet = c.in_err-len.ensures.outlet ∙ same_outlet (replied m o) c.args.outlet.now ∙ sym (ap (λ r. outlet_after r c.args.outlet.now) goes);
      scratch = search rules;
    }

pub returns : goal.returns
returns g c =
    let m = g.G.Group.model in
    let o = order (c.in_ok-request.request, c.in_ok-request.key, c.in_ok-request.nonce) in
    let goes = issue_goes m (length c.args.scratch.now) (key_in (places c.args.self.now.ring)) c.args.request.now c.args.nonce.now
    (length c.args.outlet.now) o c.in_ok-request.ensures.answer in
    record {
      answer = ap of_batch c.in_ok-len.ensures.answer ∙ same_count (replied m o) ∙ sym (ap counted goes);
      outlet = c.in_ok-len.ensures.outlet ∙ same_outlet (replied m o) c.args.outlet.now ∙ sym (ap (λ r. outlet_after r c.args.outlet.now) goes);
      scratch = search rules;
    }
