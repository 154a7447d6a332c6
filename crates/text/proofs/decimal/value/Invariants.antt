use Rattle.std.proofs.Common.{◌≡◌, ◌≤◌, drop}
use Rattle.text.specs.Decimals.{number, number_after}
use Rattle.text.proofs.decimal.value.Given as goal

abbrev pub invariant-loop-digit : goal.invariant-loop-digit
invariant-loop-digit l = (number_after l.so_far (drop l.digit-index l.digits) ≡ number l.digits) × (l.so_far ≤ l.most)
