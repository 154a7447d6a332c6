use Rattle.std.proofs.Common.{◌≡◌, ◌*◌, ◌-◌, ◌≤◌, map, length, take, drop, ap, ◌∙◌, arith}
use Rattle.std.proofs.lemmas.List.{length-take-le, length-drop}
use Rattle.tape.specs.Facts.{size_is, room_fits}
use Rattle.tape.specs.Layout.{firsts, place, pair_at}
use Rattle.tape.proofs.Reading.{records_are_chunks}
use Rattle.tape.proofs.tape_book.TapeBook.records.Goals as goal

pub slice_bounds-as_chunks-end-2 : goal.slice_bounds-as_chunks-end-2
slice_bounds-as_chunks-end-2 c =
    let b = c.args.self.now in
    let fits = room_fits b.memory.now b.capacity b.room in
    omega (arith, size_is b.memory.now, b.within)

pub returns : goal.returns
returns c =
    let b = c.args.self.now in
    let m = b.memory.now in
    let n = c.size.result in
    let fits = room_fits m b.capacity b.room in
    let inside : place n ≤ length m = omega (arith, size_is m, b.within) in
    let part : c.start.result - 2 ≡ 34 * n = omega arith in
    let long : length (take (c.start.result - 2) (drop 2 m)) ≡ 34 * n = length-take-le (c.start.result - 2) (drop 2 m) (omega (arith, length-drop 2 m)) ∙ part in
    ap (map (λ r. pair_at r 0)) c.as_chunks.ensures.front
    ∙ records_are_chunks m _ n _ inside (ap (λ k. take k (drop 2 m)) part) (omega arith)
    ∙ ap (firsts m) (c.size.ensures ∙ size_is m)
