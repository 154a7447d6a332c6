use Rattle.std.proofs.Common.{Ok, ap, ◌∙◌}
use Rattle.messages.proofs.Writing.{input_whole, input_refused}
use Rattle.messages.proofs.token_input.Goals as goal

pub returns-then-nonce-ne32 : goal.returns-then-nonce-ne32
returns-then-nonce-ne32 c = input_refused c.args.kind c.args.epoch c.args.nonce.now c.args.context.now c.args.key_id.now c.then-nonce-ne32.either

pub returns : goal.returns
returns c =
    ap (λ xs. Ok xs) c.lay_input.ensures
    ∙ input_whole c.args.kind c.args.epoch c.args.nonce.now c.args.context.now c.args.key_id.now c.if-nonce-ne32.false c.if-context-ne32.false
