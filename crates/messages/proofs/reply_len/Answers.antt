use Rattle.std.proofs.Common.{ℕ, ◌+◌, ◌*◌, ap, ◌∙◌}
use Rattle.messages.specs.Messages.{place, reply_length}
use Rattle.messages.proofs.reply_len.Goals as goal

pub returns : goal.returns
unfolding reply_length place
returns g c =
    ap (λ (w : ℕ). 5 + c.args.count * w + 2 * c.scalar_width.result) c.element_width.ensures ∙
    ap (λ (w : ℕ). 5 + c.args.count * g.G.Group.model.element_width + 2 * w) c.scalar_width.ensures
