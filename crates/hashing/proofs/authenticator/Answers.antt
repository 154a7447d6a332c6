use Rattle.std.proofs.Common.{ap, ◌∙◌}
use Rattle.digest.specs.Sha256.{sha256}
use Rattle.numbers.proofs.Writing.{and_then, whole, same_part}
use Rattle.hashing.specs.Hashing.{authenticator}
use Rattle.hashing.proofs.authenticator.Goals as goal

pub returns : goal.returns
unfolding authenticator
returns g c =
    c.hash.ensures
    ∙ ap sha256
    (c.as_slice.ensures
    ∙ whole c.new-transcript.ensures.parts
    (and_then (same_part c.to_be_bytes.ensures c.put.ensures)
    (and_then c.put-2.ensures (and_then c.put_element.ensures.put c.put-3.ensures))))
