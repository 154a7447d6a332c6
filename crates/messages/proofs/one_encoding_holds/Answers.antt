use Rattle.messages.proofs.Batches.{one_encoding}
use Rattle.messages.proofs.one_encoding_holds.Goals as goal

pub returns : goal.returns
returns g c = one_encoding g.G.Group.model
