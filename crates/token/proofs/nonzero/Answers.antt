use Rattle.std.proofs.Common.{rules}
use Rattle.token.specs.Tokens.{key_of}
use Rattle.token.proofs.nonzero.Goals as goal

pub returns-in_err-decode_scalar : goal.returns-in_err-decode_scalar
unfolding key_of
returns-in_err-decode_scalar g c = search rules

pub returns : goal.returns
unfolding key_of
returns g c = search rules
