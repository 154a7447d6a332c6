use Rattle.std.proofs.Common.{◌≡◌, ℕ, ◌≤◌, get_or}
use Rattle.book.specs.Meaning.{others}
use Rattle.tape.specs.Layout.{firsts, place}
use Rattle.tape.proofs.tape_book.methods.TapeBookBook.drop_epoch.Given as goal

abbrev pub invariant-loop-i : goal.invariant-loop-i
invariant-loop-i l = (l.stay ≤ l.i) × (firsts l.memory l.stay ≡ others l.epoch (firsts l.initial.memory l.i)) × ((k : ℕ) → place l.i ≤ k → get_or l.memory k 0 ≡ get_or l.initial.memory k 0)
