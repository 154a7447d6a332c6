use Rattle.std.proofs.Common.{refl, ◌∙◌}
use Rattle.book.specs.Runs.{Answers, Runs}
use Rattle.book.specs.Laws.{worked_calls}
use Rattle.book.proofs.Facts.{becomes_same}
use Rattle.book.proofs.Worked.{one_place}
use Rattle.book.proofs.one_place.Goals as goal

pub returns : goal.returns
returns g c =
    let m = g.B.Book.meaning in
    let start = m c.clear.new.self in
    let end = m c.mark-last.new.self in
    let told : Answers (worked_calls c.args.a.now c.args.b.now) = (c.mark-first.result, (c.mark-again.result, (c.mark-other.result, (c.drop_epoch-dropped.result, (c.mark-last.result, tt))))) in
    let run : Runs start (worked_calls c.args.a.now c.args.b.now) told end = (
      m c.mark-first.new.self,
      c.mark-first.ensures,
      (
        m c.mark-again.new.self,
        c.mark-again.ensures,
        (
          m c.mark-other.new.self,
          c.mark-other.ensures,
          (
            m c.drop_epoch-dropped.new.self,
            c.drop_epoch-dropped.ensures,
            (end, c.mark-last.ensures, becomes_same end end refl refl),
          ),
        ),
      ),
    ) in
    record {
      ran = (start, c.clear.ensures, run);
      worked = λ one differ.
          let all = one_place start end c.args.a.now c.args.b.now (λ q. (c.clear.ensures.these q).0) (c.clear.ensures.room ∙ one) differ told run in
          (λ i. record { first = (all i).0; again = (all i).1.0; other = (all i).1.1.0; dropped = (all i).1.1.1.0; last = (all i).1.1.1.1.0 });
    }
