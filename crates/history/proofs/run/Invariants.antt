use Rattle.std.proofs.Common.{◌≡◌, reverse, length, take, drop}
use Rattle.ring.specs.Places.{places}
use Rattle.history.specs.Events.{events}
use Rattle.history.specs.Kept.{Kept}
use Rattle.history.proofs.run.Given as goal

-- after i calls: the station holds what the history of the first i events says, and no place from i on has changed
abbrev pub invariant-loop-i : goal.invariant-loop-i
invariant-loop-i g l =
    Kept g.G.Group.model (g.B.Book.meaning l.initial.station.book).capacity (reverse (events (take l.i l.fn.calls) (take l.i l.outcomes))) (places l.station.ring) l.station.ring.latest (g.B.Book.meaning l.station.book)
    × (drop l.i l.outcomes ≡ drop l.i l.initial.outcomes)
    × (length l.outcomes ≡ length l.initial.outcomes)
