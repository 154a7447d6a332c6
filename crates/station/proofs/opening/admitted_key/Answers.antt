use Rattle.std.proofs.Common.{rules}
use Rattle.station.specs.Answers.{opening}
use Rattle.station.proofs.opening.admitted_key.Goals as goal

pub returns-then-scratch-lt-ENOUGH : goal.returns-then-scratch-lt-ENOUGH
unfolding opening
returns-then-scratch-lt-ENOUGH g c = search rules

pub returns-then-key-scalar_width : goal.returns-then-key-scalar_width
unfolding opening
returns-then-key-scalar_width g c = search rules

pub returns-in_err-key : goal.returns-in_err-key
unfolding opening
returns-in_err-key g c = search rules

pub returns-in_err-admit : goal.returns-in_err-admit
unfolding opening
returns-in_err-admit g c = search rules

pub returns-then-outlet-element_width : goal.returns-then-outlet-element_width
unfolding opening
returns-then-outlet-element_width g c = search rules

pub returns : goal.returns
unfolding opening
returns g c = search rules
