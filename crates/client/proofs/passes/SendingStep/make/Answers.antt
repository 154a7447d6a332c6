use Rattle.std.proofs.Common.{List, ℕ, Ok, sym, ap, ◌∙◌}
use Rattle.std.proofs.lemmas.Result.{err_from_is_err_and}
use Rattle.token.specs.Tokens.{then}
use Rattle.client.specs.Batches.{sent_code}
use Rattle.client.proofs.passes.SendingStep.make.Goals as goal

pub returns-in_err-sent : goal.returns-in_err-sent
unfolding sent_code
returns-in_err-sent g c =
    let m = g.G.Group.model in
    let p = err_from_is_err_and c.from_residual.result c.from_residual.ensures.1 in
    rw (p.1, p.2) (ap (λ r. then r (λ b. Ok (m.code b))) (sym c.in_err-sent.ensures))

pub returns : goal.returns
unfolding sent_code
returns g c =
    let m = g.G.Group.model in
    let coded = c.as_slice.ensures ∙ c.encode.ensures in
    ap (λ r. then r (λ b. Ok (m.code b))) (sym c.in_ok-sent.ensures) ∙ ap (λ (l : List ℕ). Ok l) (sym (c.copy_from_slice.ensures.after ∙ coded))
