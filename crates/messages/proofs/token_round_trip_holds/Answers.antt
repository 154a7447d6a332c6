use Rattle.messages.proofs.Tokens.{token_trip}
use Rattle.messages.proofs.token_round_trip_holds.Goals as goal

pub returns : goal.returns
returns c = token_trip
