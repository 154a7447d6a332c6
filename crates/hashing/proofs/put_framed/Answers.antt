use Rattle.std.proofs.Common.{ap, ◌∙◌}
use Rattle.numbers.specs.Bytes.{two_bytes}
use Rattle.numbers.proofs.Writing.{and_then, same_part}
use Rattle.hashing.specs.Hashing.{framed_code}
use Rattle.hashing.proofs.put_framed.Goals as goal

pub returns-clause-put : goal.returns-clause-put
unfolding framed_code
returns-clause-put g c =
    and_then (same_part (c.to_be_bytes.ensures ∙ ap two_bytes c.element_width.ensures) c.put.ensures) c.put-2.ensures
