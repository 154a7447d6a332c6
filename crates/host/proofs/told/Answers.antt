use Rattle.std.proofs.Common.{sym, ap, ◌∙◌}
use Rattle.host.proofs.Meaning.{short, whole, meant, ok_told, err_told}
use Rattle.host.proofs.told.Goals as goal

pub returns-then-code-element_width : goal.returns-then-code-element_width
returns-then-code-element_width g c =
    let m = g.G.Group.model in
    let bytes = c.args.code.now in
    let two = ap (λ r. r.number) c.refusal.ensures ∙ sym (short m bytes (λ e. c.if-code-element_width.true (e ∙ sym c.element_width.ensures))) in
    record { answer = two; meaning = meant m bytes c.refusal.result.number two }

pub returns-in-Ok : goal.returns-in-Ok
returns-in-Ok g c =
    let m = g.G.Group.model in
    let bytes = c.args.code.now in
    let zero = ok_told (m.element bytes) c.in-Ok.field-0 c.in-Ok.ensures ∙ sym (whole m bytes (c.if-code-element_width.false ∙ c.element_width.ensures)) in
    record { answer = zero; meaning = meant m bytes 0 zero }

pub returns-in-Err : goal.returns-in-Err
returns-in-Err g c =
    let m = g.G.Group.model in
    let bytes = c.args.code.now in
    let six =
    ap (λ r. r.number) c.refusal-in-Err.ensures ∙ err_told (m.element bytes) c.in-Err.fault c.in-Err.ensures ∙
    sym (whole m bytes (c.if-code-element_width.false ∙ c.element_width.ensures)) in
    record { answer = six; meaning = meant m bytes c.refusal-in-Err.result.number six }
