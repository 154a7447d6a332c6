use Rattle.std.proofs.Common.{ap}
use Rattle.group.proofs.Laws.{unblinds}
use Rattle.hashing.specs.Hashing.{hash_to_group, authenticator}
use Rattle.voprf.specs.Blinding.{blinded, answered, unblinded, direct}
use Rattle.voprf.proofs.blinding.unblinding_gives_direct.Goals as goal

pub returns : goal.returns
unfolding blinded answered unblinded direct
returns g c = λ k r input.
    let m = g.G.Group.model in
    ap (authenticator m input) (unblinds m r (m.scalars.part k) (hash_to_group m input))
