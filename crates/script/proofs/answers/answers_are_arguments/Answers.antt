use Rattle.script.proofs.Printing.{answers_are_arguments}
use Rattle.script.proofs.answers.answers_are_arguments.Goals as goal

pub returns : goal.returns
returns c = answers_are_arguments
