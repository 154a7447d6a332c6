use Rattle.std.proofs.Common.{ap, ◌∙◌}
use Rattle.scalar.specs.Scalars.{reduced}
use Rattle.hashing.specs.Hashing.{hash_to_scalar}
use Rattle.hashing.proofs.hash_to_scalar.Goals as goal

pub returns-clause-hash : goal.returns-clause-hash
unfolding hash_to_scalar
returns-clause-hash g c = c.reduce.ensures ∙ ap (reduced g.G.Group.model.scalars) c.hash_tagged.ensures.hash
