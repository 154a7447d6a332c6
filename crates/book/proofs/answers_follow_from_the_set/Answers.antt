use Rattle.book.proofs.Facts.{mark_answers, size_counts, mark_counts, drop_counts}
use Rattle.book.proofs.answers_follow_from_the_set.Goals as goal

pub returns : goal.returns
returns c = record { answers = mark_answers; size = size_counts; marked = mark_counts; dropped = drop_counts }
