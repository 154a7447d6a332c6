use Rattle.std.proofs.Common.{◌≡◌, ◌+◌, length, take, vec_items, ap, ◌∙◌, arith}
use Rattle.std.proofs.lemmas.List.{take_at, length-append}
use Rattle.std.proofs.lemmas.List.Folds.{length-flat_map-take}
use Rattle.text.specs.Pieces.{spelt, all_spelt}
use Rattle.text.specs.declared.pieces.Piece.TheVariants.{Number}
use Rattle.text.proofs.pieces.write.Goals as goal

pub returns-in-Err : goal.returns-in-Err
returns-in-Err c =
    let before = c.args.line.now in
    let line = c.loop-piece.line in
    let gone = c.in-Err.ensures in
    let so_far = all_spelt (take c.loop-piece.piece-index c.args.pieces.now) in
    let sum : length (vec_items line) ≡ length (vec_items before) + length so_far = ap length c.loop-piece.invariant.0 ∙ length-append (vec_items before) so_far in
    let room = length-flat_map-take spelt c.args.pieces.now c.loop-piece.piece-index (Number 0) c.loop-piece-test.true in (
      c.truncate.ensures.items ∙ ap (take c.len-start.result) (gone.0 ∙ c.loop-piece.invariant.0) ∙ take_at (vec_items before) so_far c.len-start.result (omega (arith, before.ok.0)),
      omega (arith, gone.1, room, sum, line.ok.0, before.ok.0, c.loop-piece.invariant.1),
    )
