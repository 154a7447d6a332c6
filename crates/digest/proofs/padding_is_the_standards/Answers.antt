use Rattle.digest.proofs.Tail.{standards_padding}
use Rattle.digest.proofs.padding_is_the_standards.Goals as goal

pub returns : goal.returns
returns c = standards_padding
