use Rattle.std.proofs.Common.{rules}
use Rattle.voprf.specs.Proving.{rechallenge}
use Rattle.voprf.proofs.proving.retrace.Goals as goal

pub returns : goal.returns
unfolding rechallenge
returns g c = search rules
