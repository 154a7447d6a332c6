use Rattle.std.proofs.Common.{◌≡◌, length, rules}
use Rattle.history.proofs.Lengths.{cut_to}
use Rattle.history.proofs.calls.Written.as_slice.Goals as goal

pub returns : goal.returns
returns c =
    let long : length c.args.self.now.bytes ≡ 137 = search rules in
    cut_to c.args.self.now.len c.min.result 137 c.args.self.now.bytes long c.min.ensures
