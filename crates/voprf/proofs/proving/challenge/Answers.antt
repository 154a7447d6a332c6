use Rattle.std.proofs.Common.{ap, ◌∙◌}
use Rattle.numbers.proofs.Writing.{and_then, whole}
use Rattle.hashing.specs.Hashing.{hash_to_scalar}
use Rattle.voprf.specs.Proving.{challenge}
use Rattle.voprf.proofs.proving.challenge.Goals as goal

pub returns : goal.returns
unfolding challenge
returns g c =
    c.hash_to_scalar.ensures.hash
    ∙ ap (hash_to_scalar g.G.Group.model)
    (whole c.new-transcript.ensures.parts
    (and_then c.put_element.ensures.put
    (and_then c.put_element-2.ensures.put
    (and_then c.put_element-3.ensures.put
    (and_then c.put_element-4.ensures.put
    (and_then c.put_element-5.ensures.put c.put.ensures))))))
