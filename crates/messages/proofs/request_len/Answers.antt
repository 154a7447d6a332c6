use Rattle.std.proofs.Common.{ℕ, ◌+◌, ◌*◌, ap}
use Rattle.messages.specs.Messages.{place, request_length}
use Rattle.messages.proofs.request_len.Goals as goal

pub returns : goal.returns
unfolding request_length place
returns g c = ap (λ (w : ℕ). 5 + c.args.count * w) c.element_width.ensures
