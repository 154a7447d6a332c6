use Rattle.std.proofs.Common.{ap, ◌∙◌}
use Rattle.digest.specs.Sha256.{sha256}
use Rattle.hashing.specs.Hashing.{key_id}
use Rattle.hashing.proofs.key_id.Goals as goal

pub returns : goal.returns
unfolding key_id
returns g c = c.hash.ensures ∙ ap sha256 (c.as_slice.ensures ∙ c.encode.ensures)
