use Rattle.std.proofs.Common.{lit<, lit≤}
use Rattle.circle.proofs.Field.{prime}
use Rattle.circle.proofs.plane.Goals as goal

pub invariant_of-result : goal.invariant_of-result
invariant_of-result c = record { low = lit≤ tt; high = lit< tt; prime = prime }
