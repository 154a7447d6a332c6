use Rattle.std.proofs.Common.{rules}
use Rattle.client.specs.Finishing.{finalized}
use Rattle.client.proofs.passes.finalize.Goals as goal

pub returns-in_err-r : goal.returns-in_err-r
unfolding finalized
returns-in_err-r g c = search rules

pub returns-in_err-e : goal.returns-in_err-e
unfolding finalized
returns-in_err-e g c = search rules

pub returns : goal.returns
unfolding finalized
returns g c = search rules
