use Rattle.text.proofs.Undoing.{reading_undoes_writing}
use Rattle.text.proofs.hex.reading_undoes_writing.Goals as goal

pub returns : goal.returns
returns c = reading_undoes_writing
