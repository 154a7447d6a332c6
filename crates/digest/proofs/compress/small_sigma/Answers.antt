use Rattle.digest.specs.Words.{shifted}
use Rattle.digest.proofs.Logic.{rotated}
use Rattle.digest.proofs.compress.small_sigma.Goals as goal

pub returns : goal.returns
unfolding shifted
returns g c =
    let a = rotated g.row.A c.args.x c.requires.0 in
    let b = rotated g.row.B c.args.x c.requires.1 in
    cc
