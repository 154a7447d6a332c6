use Rattle.chains.proofs.Meanings.{one_answer, found, cleared_chains, marked_chains, dropped_chains}
use Rattle.chains.proofs.chains_keep_a_set.Goals as goal

pub returns : goal.returns
returns c = record { one = one_answer; found = found; clear = cleared_chains; mark = marked_chains; drop = dropped_chains }
