use Rattle.std.proofs.Common.{ap, ◌∙◌}
use Rattle.numbers.specs.Bytes.{two_bytes}
use Rattle.numbers.proofs.Writing.{and_then, same_part}
use Rattle.messages.specs.Messages.{head_bytes}
use Rattle.messages.proofs.put_head.Goals as goal

pub returns : goal.returns
unfolding head_bytes
returns g c =
    and_then (same_part (c.to_be_bytes.ensures ∙ ap two_bytes c.kind.ensures) c.put.ensures)
    (and_then (same_part c.to_be_bytes-2.ensures c.put-2.ensures) c.put-3.ensures)
