use Rattle.std.proofs.Common.{rules}
use Rattle.messages.specs.Messages.{token_input_of}
use Rattle.token.specs.Tokens.{token_input, input_answer}
use Rattle.token.proofs.input.Goals as goal

pub returns-then-nonce-ne32 : goal.returns-then-nonce-ne32
unfolding input_answer
returns-then-nonce-ne32 g c = search rules

pub returns-in_err-pk : goal.returns-in_err-pk
unfolding input_answer
returns-in_err-pk g c = search rules

pub returns-in_err-token_input : goal.returns-in_err-token_input
unfolding input_answer token_input_of token_input
returns-in_err-token_input g c = search rules

pub returns : goal.returns
unfolding input_answer token_input_of token_input
returns g c = search rules
