use Rattle.std.proofs.Common.{length, ap, ◌∙◌, arith}
use Rattle.std.proofs.lemmas.List.{length-take-le}
use Rattle.numbers.specs.Bytes.{read, word}
use Rattle.numbers.proofs.Bytes.{read_eight}
use Rattle.numbers.proofs.leading_word.Goals as goal

pub returns : goal.returns
unfolding word
returns c =
    let front = rw c.unwrap.ensures at c.first_chunk.ensures.cases in
    let long = ap length front.same ∙ length-take-le 8 c.args.bytes.now (omega arith) in
    c.from_be_bytes.ensures ∙ read_eight c.unwrap.result.now long ∙ ap read front.same
