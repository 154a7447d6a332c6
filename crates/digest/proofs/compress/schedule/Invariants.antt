use Rattle.std.proofs.Common.{◌≡◌, ◌+◌, ◌*◌, map, length, take}
use Rattle.std.specs.List.{range_with_len}
use Rattle.digest.specs.Words.{word_at}
use Rattle.digest.specs.Sha256.{grown}
use Rattle.digest.proofs.compress.schedule.Given as goal

abbrev pub invariant-loop-t : goal.invariant-loop-t
invariant-loop-t l =
    (take l.t l.words ≡ map (λ t. word_at l.block (4 * t)) (range_with_len 0 l.t)) × (length l.words ≡ 64)

abbrev pub invariant-loop-i : goal.invariant-loop-i
invariant-loop-i l = (take (8 * l.i + 16) l.words ≡ grown l.block (8 * l.i)) × (length l.words ≡ 64)

abbrev pub invariant-loop-j : goal.invariant-loop-j
invariant-loop-j l = (take (8 * l.i + l.j + 16) l.words ≡ grown l.block (8 * l.i + l.j)) × (length l.words ≡ 64)
