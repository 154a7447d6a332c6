use Rattle.messages.proofs.Batches.{round_trip}
use Rattle.messages.proofs.round_trip_holds.Goals as goal

pub returns : goal.returns
returns g c = round_trip g.G.Group.model
