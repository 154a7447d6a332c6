use Rattle.numbers.proofs.Writing.{and_then, same_part}
use Rattle.hashing.specs.Hashing.{context_string}
use Rattle.hashing.proofs.put_context.Goals as goal

pub returns-clause-put : goal.returns-clause-put
unfolding context_string
returns-clause-put g c =
    and_then c.put.ensures
    (and_then c.put-2.ensures (and_then (same_part c.name.ensures c.put-3.ensures) c.put-4.ensures))
