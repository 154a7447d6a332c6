use Rattle.std.proofs.Common.{◌≡◌, ◌≤◌, ◌++◌, take, vec_items, vec_capacity}
use Rattle.text.specs.Pieces.{all_spelt}
use Rattle.text.proofs.pieces.write.Given as goal

abbrev pub invariant-loop-piece : goal.invariant-loop-piece
invariant-loop-piece l =
    (vec_items l.line ≡ vec_items l.initial.line ++ all_spelt (take l.piece-index l.pieces))
    × (vec_capacity l.initial.line ≤ vec_capacity l.line)
