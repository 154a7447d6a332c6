use Rattle.std.proofs.Common.{ℕ, List, length, Ok, Err, sym, refl, ap, ◌∙◌}
use Rattle.std.proofs.lemmas.Result.{err_from_is_err_and}
use Rattle.hashing.specs.Hashing.{authenticator}
use Rattle.voprf.specs.Blinding.{answered, direct}
use Rattle.token.specs.Tokens.{is_null}
use Rattle.token.proofs.Directs.{too_short, enough, wrong_key, wrong_input, fitting, no_key, null_input, made}
use Rattle.token.proofs.direct.Goals as goal

pub returns-in_default-clause-answer : goal.returns-in_default-clause-answer
returns-in_default-clause-answer g c =
    sym (too_short g.G.Group.model c.args.key.now c.args.input.now (length c.args.scratch.now) c.in_default.ensures.cases)

pub returns-then-key-scalar_width-clause-answer : goal.returns-then-key-scalar_width-clause-answer
returns-then-key-scalar_width-clause-answer g c =
    let m = g.G.Group.model in
    sym
    (enough m c.args.key.now c.args.input.now (length c.args.scratch.now) (c.in-Some.ensures.variant.0 refl)
    ∙ wrong_key m c.args.key.now c.args.input.now (λ l. c.if-key-scalar_width.true (l ∙ sym c.scalar_width.ensures)))

pub returns-then-input-ne100-clause-answer : goal.returns-then-input-ne100-clause-answer
returns-then-input-ne100-clause-answer g c =
    let m = g.G.Group.model in
    sym
    (enough m c.args.key.now c.args.input.now (length c.args.scratch.now) (c.in-Some.ensures.variant.0 refl)
    ∙ wrong_input m c.args.key.now c.args.input.now (c.if-key-scalar_width.false ∙ c.scalar_width.ensures) c.if-input-ne100.true)

pub returns-in_err-key-clause-answer : goal.returns-in_err-key-clause-answer
returns-in_err-key-clause-answer g c =
    let m = g.G.Group.model in
    let p = err_from_is_err_and c.from_residual.result c.from_residual.ensures.1 in
    p.1 ∙ ap (λ f. Err f) p.2
    ∙ sym
    (enough m c.args.key.now c.args.input.now (length c.args.scratch.now) (c.in-Some.ensures.variant.0 refl)
    ∙ fitting m c.args.key.now c.args.input.now (c.if-key-scalar_width.false ∙ c.scalar_width.ensures) c.if-input-ne100.false
    ∙ no_key m c.args.key.now c.args.input.now c.in_err-key.field-0.0 (sym c.in_err-key.ensures))

pub returns-then-is_null-clause-answer : goal.returns-then-is_null-clause-answer
returns-then-is_null-clause-answer g c =
    let m = g.G.Group.model in
    sym
    (enough m c.args.key.now c.args.input.now (length c.args.scratch.now) (c.in-Some.ensures.variant.0 refl)
    ∙ fitting m c.args.key.now c.args.input.now (c.if-key-scalar_width.false ∙ c.scalar_width.ensures) c.if-input-ne100.false
    ∙ null_input m c.args.key.now c.args.input.now c.in_ok-key.key (sym c.in_ok-key.ensures)
    (ap (is_null m) (sym c.hash_to_group-mapped.ensures) ∙ sym c.is_null.ensures ∙ c.if-is_null.true))

pub returns-clause-answer : goal.returns-clause-answer
unfolding direct answered
returns-clause-answer g c =
    let m = g.G.Group.model in
    ap (λ (x : List ℕ). Ok x)
    (c.authenticator.ensures ∙ ap (authenticator m c.args.input.now) (c.evaluate.ensures ∙ ap (answered m c.in_ok-key.key) c.hash_to_group-mapped.ensures))
    ∙ sym
    (enough m c.args.key.now c.args.input.now (length c.args.scratch.now) (c.in-Some.ensures.variant.0 refl)
    ∙ fitting m c.args.key.now c.args.input.now (c.if-key-scalar_width.false ∙ c.scalar_width.ensures) c.if-input-ne100.false
    ∙ made m c.args.key.now c.args.input.now c.in_ok-key.key (sym c.in_ok-key.ensures)
    (ap (is_null m) (sym c.hash_to_group-mapped.ensures) ∙ sym c.is_null.ensures ∙ c.if-is_null.false))
