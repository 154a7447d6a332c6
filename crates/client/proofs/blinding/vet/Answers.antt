use Rattle.std.proofs.Common.{rules}
use Rattle.client.specs.Blinding.{vetted}
use Rattle.client.proofs.blinding.vet.Goals as goal

pub returns-then-epoch-eq0-clause-answer : goal.returns-then-epoch-eq0-clause-answer
unfolding vetted
returns-then-epoch-eq0-clause-answer g c = search rules

pub returns-then-order-element_width-clause-answer : goal.returns-then-order-element_width-clause-answer
unfolding vetted
returns-then-order-element_width-clause-answer g c = search rules

pub returns-then-not-contains-clause-answer : goal.returns-then-not-contains-clause-answer
unfolding vetted
returns-then-not-contains-clause-answer g c = search rules

pub returns-then-order-n-clause-answer : goal.returns-then-order-n-clause-answer
unfolding vetted
returns-then-order-n-clause-answer g c = search rules

pub returns-in_err-pk-clause-answer : goal.returns-in_err-pk-clause-answer
unfolding vetted
returns-in_err-pk-clause-answer g c = search rules

pub returns-then-outlet-request_len-clause-answer : goal.returns-then-outlet-request_len-clause-answer
unfolding vetted
returns-then-outlet-request_len-clause-answer g c = search rules

pub returns-clause-answer : goal.returns-clause-answer
unfolding vetted
returns-clause-answer g c = search rules
