use Rattle.std.proofs.Common.{sym}
use Rattle.std.proofs.lemmas.Bool.{eqb-true, eqb-false}
use Rattle.text.specs.Lines.{left}
use Rattle.text.proofs.Sentences.{none_left, one_taken}
use Rattle.text.proofs.words.Words.take.Goals as goal

pub returns-then-is_empty : goal.returns-then-is_empty
unfolding left
returns-then-is_empty c =
    let word = c.split_at-2.ensures in
    none_left _ _ _ _ _ _ c.run-gap.ensures.count c.split_at.ensures.back c.run-length.ensures.count word.front word.back word.front_len (eqb-true _ 0 (sym c.if-is_empty.ensures))

pub returns-else-is_empty : goal.returns-else-is_empty
unfolding left
returns-else-is_empty c =
    let word = c.split_at-2.ensures in
    one_taken _ _ _ _ _ _ c.run-gap.ensures.count c.split_at.ensures.back c.run-length.ensures.count word.front word.back word.front_len (eqb-false _ 0 (sym c.if-is_empty.ensures))
