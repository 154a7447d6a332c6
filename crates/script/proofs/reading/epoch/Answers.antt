use Rattle.std.proofs.Common.{◌≤◌, arith}
use Rattle.script.proofs.Numbers.{first_within}
use Rattle.script.proofs.reading.epoch.Goals as goal

pub overflow_cast-result : goal.overflow_cast-result
overflow_cast-result c =
    let small : c.in_ok-epoch.epoch ≤ 65535 = first_within 65535 _ _ (omega arith) _ c.in_ok-epoch.ensures.0 in
    omega (arith, small)
