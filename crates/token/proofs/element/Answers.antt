use Rattle.std.proofs.Common.{rules}
use Rattle.token.specs.Tokens.{element_of}
use Rattle.token.proofs.element.Goals as goal

pub returns-in_err-p : goal.returns-in_err-p
unfolding element_of
returns-in_err-p g c = search rules

pub returns-then-is_null : goal.returns-then-is_null
unfolding element_of
returns-then-is_null g c = search rules

pub returns : goal.returns
unfolding element_of
returns g c = search rules
