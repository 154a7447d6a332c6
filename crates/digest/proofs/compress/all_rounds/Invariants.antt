use Rattle.std.proofs.Common.{◌≡◌, ◌+◌, ◌*◌}
use Rattle.digest.specs.Sha256.{rounds}
use Rattle.digest.proofs.compress.all_rounds.Given as goal

abbrev pub invariant-loop-i : goal.invariant-loop-i
invariant-loop-i l = l.v ≡ rounds l.words (8 * l.i) l.fn.start

abbrev pub invariant-loop-j : goal.invariant-loop-j
invariant-loop-j l = l.v ≡ rounds l.words (8 * l.i + l.j) l.fn.start
