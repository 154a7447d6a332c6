use Rattle.std.proofs.Common.{drop, Ok, sym, ap, ◌∙◌, arith, ltb-false, ltb-true}
use Rattle.std.proofs.lemmas.List.{take_rest}
use Rattle.messages.specs.Messages.{kind_in, count_in}
use Rattle.messages.proofs.Reading.{header_short, header_whole}
use Rattle.messages.proofs.take_header.Goals as goal

pub returns-in_default : goal.returns-in_default
returns-in_default c = sym (header_short c.args.message.now (omega (arith, ltb-true)))

pub returns : goal.returns
returns c =
    let bytes = c.args.message.now in
    ap (λ rest. Ok (record { kind = c.number.result; epoch = c.number-2.result; count = count_in bytes }, rest)) (take_rest bytes 5) ∙
    ap (λ k. Ok (record { kind = k; epoch = c.number-2.result; count = count_in bytes }, drop 5 bytes)) c.number.ensures ∙
    ap (λ e. Ok (record { kind = kind_in bytes; epoch = e; count = count_in bytes }, drop 5 bytes)) c.number-2.ensures ∙
    sym (header_whole bytes (omega (arith, ltb-false)))
