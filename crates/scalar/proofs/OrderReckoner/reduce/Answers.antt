use Rattle.std.proofs.Common.{ℕ, ◌%◌, ap}
use Rattle.scalar.specs.Scalars.{reduced}
use Rattle.scalar.proofs.Meets.{by_value}
use Rattle.scalar.proofs.OrderReckoner.reduce.Goals as goal

pub returns : goal.returns
unfolding reduced
returns g c = by_value c.args.self _ _ (ap (λ (x : ℕ). x % g.row.Q) c.leading_word.ensures)
