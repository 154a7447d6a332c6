use Rattle.std.proofs.Common.{◌≡◌, ℕ, ◌-◌, ◌*◌, ◌≤◌, [], length}
use Rattle.numbers.specs.Writing.{put_so_far, room}
use Rattle.station.specs.Issuing.{answer_codes}
use Rattle.station.proofs.issuing.answer_items.Given as goal

-- the places from the start on are left, with their items, and the answers so far stand in front
abbrev pub invariant-loop-place : goal.invariant-loop-place
invariant-loop-place g l =
    let m = g.G.Group.model in
    let from : ℕ = l.place-iterator.a.start in
    (length l.place-iterator.b.rest.now ≡ (l.fn.count - from) * m.element_width)
    × (l.place-iterator.b.size ≡ m.element_width)
    × (l.place-iterator.a.end ≡ l.fn.count)
    × (from ≤ l.fn.count)
    × (l.codes.len ≡ from * m.element_width)
    × (room l.codes ≡ 128)
    × (answer_codes m l.fn.key from (l.fn.count - from) l.place-iterator.b.rest.now (put_so_far l.codes) ≡ answer_codes m l.fn.key 0 l.fn.count l.fn.items [])
