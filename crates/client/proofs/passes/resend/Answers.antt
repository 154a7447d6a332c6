use Rattle.std.proofs.Common.{rules}
use Rattle.client.specs.Finishing.{sent_again}
use Rattle.client.proofs.passes.resend.Goals as goal

pub returns-in_err-again : goal.returns-in_err-again
unfolding sent_again
returns-in_err-again g c = search rules

pub returns-in_err-element : goal.returns-in_err-element
unfolding sent_again
returns-in_err-element g c = search rules

pub returns : goal.returns
unfolding sent_again
returns g c = search rules
