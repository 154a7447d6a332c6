use Rattle.std.proofs.Common.{◌≡◌, ap}
use Rattle.digest.specs.Sha256.{compressed, rounds, working, schedule, added}
use Rattle.digest.proofs.compress.compress.Goals as goal

pub returns : goal.returns
unfolding compressed
returns c =
    let state = c.args.state.now in
    let e : c.all_rounds-v.result ≡ rounds (schedule c.args.block.now) 64 (working state) = cc in
    ap (added state) e
