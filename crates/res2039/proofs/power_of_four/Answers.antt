use Rattle.std.proofs.Common.{arith, lit<}
use Rattle.numbers.proofs.Powers.{power_at}
use Rattle.res2039.proofs.power_of_four.Goals as goal

pub returns : goal.returns
returns c =
    let table = c.powers_of_four.ensures in
    power_at 2039 4 c.powers_of_four.result.now c.args.k table.powers (lit< tt) (omega arith)
