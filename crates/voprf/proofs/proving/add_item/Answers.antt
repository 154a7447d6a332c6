use Rattle.std.proofs.Common.{rules}
use Rattle.voprf.specs.Proving.{step}
use Rattle.voprf.proofs.proving.add_item.Goals as goal

pub returns-in_err-sent : goal.returns-in_err-sent
unfolding step
returns-in_err-sent g c = search rules

pub returns-in_err-got : goal.returns-in_err-got
unfolding step
returns-in_err-got g c = search rules

pub returns : goal.returns
unfolding step
returns g c = search rules
