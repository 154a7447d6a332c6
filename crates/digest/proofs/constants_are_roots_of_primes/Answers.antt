use Rattle.digest.proofs.Roots.{constants}
use Rattle.digest.proofs.constants_are_roots_of_primes.Goals as goal

pub returns : goal.returns
returns c = constants
