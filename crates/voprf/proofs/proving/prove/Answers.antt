use Rattle.std.proofs.Common.{rules}
use Rattle.voprf.specs.Proving.{proof_of, proved}
use Rattle.voprf.proofs.proving.prove.Goals as goal

pub returns-in_err-m : goal.returns-in_err-m
unfolding proved
returns-in_err-m g c = search rules

pub returns : goal.returns
unfolding proved proof_of
returns g c = search rules
