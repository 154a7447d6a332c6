-- What a call on the records answers, and the table that it leaves.
use Rattle.std.specs.Prelude.{◌≡◌, ◌<◌, ◌≤◌, map, length, Ok, Err, Result}
use Rattle.std.specs.List.{ContainsAt as Has}
use Rattle.faults.specs.declared.BookFault.{BookFault}
use Rattle.faults.specs.declared.BookFault.TheVariants.{Spent, Full}
use Rattle.book.specs.Meaning.{Pair}
use Rattle.chains.specs.Tables.{Table, at, pair_of, chain_of, marked}
use Rattle.chains.specs.Chains.{chain}

-- the pair is in its chain
unfoldable pub Chained : Table → Pair → Type 0
Chained t p = Has (map (λ k. pair_of (at t k)) (chain t (chain_of p.1))) p

-- mark refuses a pair in its chain, then any pair where no place is left, and leaves the table; else the
-- first free record takes the pair
abbrev pub Marks : Table → Pair → Result (Unit {0}) BookFault → Table → Type 0
Marks t p (Ok _) u = (Chained t p → ⊥) × (t.size < length t.entries) × (u ≡ marked t p)
Marks t p (Err Spent) u = Chained t p × (u ≡ t)
Marks t p (Err Full) u = (Chained t p → ⊥) × (length t.entries ≤ t.size) × (u ≡ t)
