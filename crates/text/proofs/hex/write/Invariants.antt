use Rattle.std.proofs.Common.{◌≡◌, ◌+◌, ◌-◌, ◌*◌, ◌≤◌, ◌++◌, length, take, vec_items, vec_len, vec_capacity}
use Rattle.text.specs.Hexadecimal.{written}
use Rattle.text.proofs.hex.write.Given as goal

abbrev pub invariant-loop-byte : goal.invariant-loop-byte
invariant-loop-byte l =
    (vec_items l.text ≡ vec_items l.initial.text ++ written (take l.byte-index l.bytes))
    × (vec_len l.text + (length l.bytes - l.byte-index) * 2 ≤ vec_capacity l.text)
    × (vec_capacity l.initial.text ≤ vec_capacity l.text)
