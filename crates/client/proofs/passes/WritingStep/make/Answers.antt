use Rattle.std.proofs.Common.{List, ℕ, Ok, sym, refl, ap, ◌∙◌}
use Rattle.std.proofs.lemmas.Result.{err_from_is_err_and}
use Rattle.messages.specs.Messages.{token_bytes}
use Rattle.token.specs.Tokens.{then}
use Rattle.client.specs.Finishing.{token_made}
use Rattle.client.proofs.passes.WritingStep.make.Goals as goal

pub returns-in_err-authenticator : goal.returns-in_err-authenticator
unfolding token_made
returns-in_err-authenticator g c =
    let m = g.G.Group.model in
    let p = err_from_is_err_and c.from_residual.result c.from_residual.ensures.1 in
    rw (p.1, p.2) (ap (λ r. then r (λ a. Ok (token_bytes c.args.input.now a))) (sym c.in_err-authenticator.ensures))

pub returns : goal.returns
unfolding token_made token_bytes
returns g c =
    let m = g.G.Group.model in
    ap (λ r. then r (λ a. Ok (token_bytes c.args.input.now a))) (sym c.in_ok-authenticator.ensures) ∙ ap (λ (l : List ℕ). Ok l) (rw (c.copy_from_slice.ensures.after, c.copy_from_slice-2.ensures.after) refl)
