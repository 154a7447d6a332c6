use Rattle.std.proofs.Common.{◌∙◌, arith}
use Rattle.numbers.proofs.Writing.{and_then, same_part}
use Rattle.messages.specs.Messages.{token_input_bytes}
use Rattle.messages.proofs.Writing.{written_over, over_all, input_length}
use Rattle.messages.proofs.lay_input.Goals as goal

pub returns : goal.returns
unfolding token_input_bytes
returns c =
    let all =
    and_then (same_part c.to_be_bytes.ensures c.put.ensures)
    (and_then (same_part c.to_be_bytes-2.ensures c.put-2.ensures) (and_then c.put-3.ensures (and_then c.put-4.ensures c.put-5.ensures))) in
    let long = input_length c.args.kind c.args.epoch c.args.nonce.now c.args.context.now c.args.key_id.now c.requires.nonce c.requires.context c.told-key_id in
    written_over c.args.out.now c.new-input.ensures.bytes c.new-input.ensures.parts c.new-input.ensures.len all
    ∙ over_all (token_input_bytes c.args.kind c.args.epoch c.args.nonce.now c.args.context.now c.args.key_id.now) c.args.out.now (let out = c.told-out in omega arith)
