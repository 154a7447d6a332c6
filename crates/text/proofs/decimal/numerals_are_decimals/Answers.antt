use Rattle.text.proofs.Numerals.{numerals_are_decimals}
use Rattle.text.proofs.decimal.numerals_are_decimals.Goals as goal

pub returns : goal.returns
returns c = numerals_are_decimals
