use Rattle.std.proofs.Common.{ap, ◌∙◌}
use Rattle.numbers.proofs.Writing.{and_then, same_part, whole}
use Rattle.hashing.specs.Hashing.{hash_to_scalar}
use Rattle.voprf.specs.Proving.{weight}
use Rattle.voprf.proofs.proving.weight.Goals as goal

pub returns : goal.returns
unfolding weight
returns g c =
    c.hash_to_scalar.ensures.hash
    ∙ ap (hash_to_scalar g.G.Group.model)
    (whole c.new-transcript.ensures.parts
    (and_then c.put.ensures
    (and_then c.put-2.ensures
    (and_then (same_part c.to_be_bytes.ensures c.put-3.ensures)
    (and_then c.put_framed.ensures.put
    (and_then c.put_framed-2.ensures.put c.put-4.ensures))))))
