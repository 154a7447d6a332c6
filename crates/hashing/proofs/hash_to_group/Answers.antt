use Rattle.std.proofs.Common.{ℕ, List, codes, ap, ◌∙◌}
use Rattle.digest.specs.Sha256.{sha256}
use Rattle.numbers.proofs.Writing.{whole}
use Rattle.hashing.specs.Hashing.{tagged, hash_to_group}
use Rattle.hashing.proofs.hash_to_group.Goals as goal

pub returns : goal.returns
unfolding hash_to_group
returns g c =
    let m = g.G.Group.model in
    c.map.ensures
    ∙ ap m.map
    (c.hash_tagged.ensures.hash
    ∙ ap (λ (l : List ℕ). sha256 (tagged m (codes "HashToGroup-") l)) (whole c.new-transcript.ensures.parts c.put.ensures))
