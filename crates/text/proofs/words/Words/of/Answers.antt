use Rattle.std.proofs.Common.{take, ap, ◌∙◌}
use Rattle.text.specs.Lines.{left, words}
use Rattle.text.proofs.words.Words.of.Goals as goal

pub returns : goal.returns
unfolding left
returns c = ap words (c.split_at.ensures.front ∙ ap (λ n. take n c.args.line.now) c.run-end.ensures.count)
