use Rattle.std.proofs.Common.{rules}
use Rattle.station.proofs.Spending.{redeems, asked}
use Rattle.station.proofs.Station.redeem.Goals as goal

pub returns : goal.returns
returns g c =
    let pair = c.in_ok-epoch.ensures in
    let marked = c.in_ok-mark.ensures in
    record { answer = search (rules, redeems); untouched = asked _ _ _ _ pair; scratch = search rules; ring = search rules }
