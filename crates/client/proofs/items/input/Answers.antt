use Rattle.std.proofs.Common.{rules}
use Rattle.messages.specs.Messages.{token_input_of}
use Rattle.client.specs.Batches.{input_under}
use Rattle.client.proofs.items.input.Goals as goal

pub unwrap-requires : goal.unwrap-requires
unfolding token_input_of
unwrap-requires g c = search rules

pub returns : goal.returns
unfolding token_input_of input_under
returns g c = search rules
