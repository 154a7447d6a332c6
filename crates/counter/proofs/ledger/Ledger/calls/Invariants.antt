use Rattle.std.proofs.Common.{◌≡◌, map, take, vec_items}
use Rattle.counter.specs.Ledgers.{lent_of, seen}
use Rattle.counter.proofs.ledger.Ledger.calls.Given as goal

abbrev pub invariant-loop-entry : goal.invariant-loop-entry
invariant-loop-entry l = map seen (vec_items l.calls) ≡ map lent_of (take l.entry-index l.entry-items)
