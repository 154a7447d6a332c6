use Rattle.ring.proofs.Laws.{ring_laws}
use Rattle.ring.proofs.ring_laws_hold.Goals as goal

pub returns : goal.returns
returns g c = ring_laws _
