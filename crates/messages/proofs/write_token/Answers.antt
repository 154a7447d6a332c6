use Rattle.std.proofs.Common.{length, sym, refl, ◌∙◌, rules}
use Rattle.numbers.proofs.Writing.{and_then}
use Rattle.messages.specs.Messages.{token_bytes}
use Rattle.messages.proofs.Writing.{token_narrow, token_fits, written_over}
use Rattle.messages.proofs.write_token.Goals as goal

pub returns-then-out-lt132 : goal.returns-then-out-lt132
returns-then-out-lt132 c = record { written = sym (token_narrow (length c.args.out.now) c.if-out-lt132.true); out = refl }

pub returns-clause-written : goal.returns-clause-written
returns-clause-written c = sym (token_fits (length c.args.out.now) c.if-out-lt132.false)

pub returns-clause-out : goal.returns-clause-out
unfolding token_bytes
returns-clause-out c =
    let all = and_then c.put.ensures c.put-2.ensures in
    let lent = all.lent ∙ c.new-token.ensures.lent in
    let last = written_over c.args.out.now c.new-token.ensures.bytes c.new-token.ensures.parts c.new-token.ensures.len all in
    search rules
