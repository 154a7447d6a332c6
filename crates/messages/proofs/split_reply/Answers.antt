use Rattle.std.proofs.Common.{ℕ, ◌+◌, ◌*◌, sym, ap, ◌∙◌}
use Rattle.messages.proofs.Reading.{split_wrong, split_whole}
use Rattle.messages.proofs.split_reply.Goals as goal

pub returns-then-rest-codes : goal.returns-then-rest-codes
returns-then-rest-codes g c =
    let m = g.G.Group.model in
    let n = c.args.count in
    let ns = c.scalar_width-width.result in
    sym (split_wrong m n c.args.rest.now
    (λ l. c.if-rest-codes.true (l ∙ ap (λ (w : ℕ). n * w + 2 * m.scalars.width) (sym c.element_width.ensures) ∙ ap (λ (w : ℕ). n * c.element_width.result + 2 * w) (sym c.scalar_width-width.ensures))))

pub returns : goal.returns
returns g c =
    let m = g.G.Group.model in
    let n = c.args.count in
    let rest = c.args.rest.now in
    let ne = c.element_width.ensures in
    let ns = c.scalar_width-width.ensures in
    let items = c.split_at.ensures.front in
    let proof = c.split_at.ensures.back in
    let first = c.split_at-2.ensures.front in
    let second = c.split_at-2.ensures.back in
    let wide = ap (λ (w : ℕ). n * w) ne in
    cc (
      split_whole m n rest (c.if-rest-codes.false ∙ ap (λ (w : ℕ). n * w + 2 * c.scalar_width-width.result) ne ∙ ap (λ (w : ℕ). n * m.element_width + 2 * w) ns),
      wide,
    )
