use Rattle.digest.specs.Words.{turned}
use Rattle.digest.proofs.Logic.{rotated}
use Rattle.digest.proofs.compress.big_sigma.Goals as goal

pub returns : goal.returns
unfolding turned
returns g c =
    let a = rotated g.row.A c.args.x c.requires.0 in
    let b = rotated g.row.B c.args.x c.requires.1 in
    let d = rotated g.row.C c.args.x c.requires.2 in
    cc
