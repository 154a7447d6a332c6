use Rattle.std.proofs.Common.{sym, rules}
use Rattle.messages.specs.Views.{answers}
use Rattle.client.specs.Finishing.{finish_vetted}
use Rattle.client.proofs.Replies.{reply_known}
use Rattle.client.proofs.finishing.vet.Goals as goal

pub returns-then-order-element_width-clause-answer : goal.returns-then-order-element_width-clause-answer
unfolding finish_vetted
returns-then-order-element_width-clause-answer g c = search rules

pub returns-in_err-reply-clause-answer : goal.returns-in_err-reply-clause-answer
unfolding finish_vetted
returns-in_err-reply-clause-answer g c = search rules

pub returns-in_err-pk-clause-answer : goal.returns-in_err-pk-clause-answer
unfolding finish_vetted
returns-in_err-pk-clause-answer g c = search rules

pub returns-then-outlet-count-clause-answer : goal.returns-then-outlet-count-clause-answer
unfolding finish_vetted
returns-then-outlet-count-clause-answer g c = search rules

pub returns-clause-answer : goal.returns-clause-answer
unfolding finish_vetted
returns-clause-answer g c = search rules

pub returns-clause-known : goal.returns-clause-known
returns-clause-known g c =
    let read = reply_known g.G.Group.model c.args.pending.now.count c.args.pending.now.epoch c.args.reply.now (answers c.in_ok-reply.reply)
    (sym c.in_ok-reply.ensures) in
    record {
      room = search rules;
      timed = read.0;
      counted = read.1;
      seeded = search rules;
      blinded_each = search rules;
      answered_each = read.2;
      fits = search rules;
    }
