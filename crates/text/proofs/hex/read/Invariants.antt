use Rattle.std.proofs.Common.{◌+◌, ◌-◌, ◌*◌, ◌≤◌, ◌++◌, length, drop, vec_items, vec_len, vec_capacity}
use Rattle.text.specs.Hexadecimal.{paired}
use Rattle.text.proofs.Pairs.{Sofar}
use Rattle.text.proofs.hex.read.Given as goal

abbrev pub invariant-loop-high : goal.invariant-loop-high
invariant-loop-high l =
    Sofar (vec_items l.initial.bytes ++ paired l.text) (drop (2 * l.high-index) l.text) (vec_items l.bytes)
    × (vec_len l.bytes + (length l.pairs - l.high-index) ≤ vec_capacity l.bytes)
