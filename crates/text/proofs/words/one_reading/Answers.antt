use Rattle.text.proofs.Sentences.{one_reading}
use Rattle.text.proofs.words.one_reading.Goals as goal

pub returns : goal.returns
returns c = one_reading
