use Rattle.std.proofs.Common.{arith}
use Rattle.speed.proofs.stations.accepted_of.Goals as goal

pub returns : goal.returns
returns g c = omega (arith, c.loop-token.invariant, c.loop-token.auto.token-index-end, c.as_chunks.ensures.front_len)
