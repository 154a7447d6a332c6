use Rattle.std.proofs.Common.{◌≡◌, ℕ, ◌+◌, ◌-◌, ◌*◌, ◌<◌, ◌≤◌, length, Ok, Err, sym, ap, ◌∙◌, ⊎_elim, arith}
use Rattle.std.proofs.lemmas.Result.{err_from_is_err_and}
use Rattle.std.specs.Slice.Iter.{chunks_exact_rest}
use Rattle.voprf.specs.Proving.{step, steps}
use Rattle.voprf.proofs.Sums.{one_less, none_left, onward, steps_done}
use Rattle.voprf.proofs.proving.sum_items.Goals as goal

pub loop-place-preserved : goal.loop-place-preserved
loop-place-preserved g c =
    let m = g.G.Group.model in
    let n = c.args.count in
    let before = c.loop-place.place-iterator in
    let after = c.next.new.self in
    let now = c.loop-place.invariant in
    let took = c.in-Some.ensures.steps in
    let i = before.a.start in
    let here : i < n = let some = took.0.1.0 in let end = now.end in omega arith in
    let on : after.a.start ≡ i + 1 = took.0.1.2 in
    let sent = took.1.0.1.1 ∙ now.wide_sent in
    let got = took.1.1.1.1 ∙ now.wide_got in
    let less : n - (i + 1) ≡ n - after.a.start = omega arith in
    record {
      end = took.0.0 ∙ now.end;
      within = omega arith;
      wide_sent = took.1.0.0 ∙ now.wide_sent;
      wide_got = took.1.1.0 ∙ now.wide_got;
      sent =
          one_less n i m.element_width (chunks_exact_rest before.b.a) c.in-Some.sent.now (chunks_exact_rest after.b.a) here took.1.0.1.0 sent now.sent
          ∙ ap (λ (k : ℕ). k * m.element_width) less;
      got =
          one_less n i m.element_width (chunks_exact_rest before.b.b) c.in-Some.got.now (chunks_exact_rest after.b.b) here took.1.1.1.0 got now.got
          ∙ ap (λ (k : ℕ). k * m.element_width) less;
      sums =
          ap (λ (k : ℕ). steps m c.args.seed.now k (n - k) (chunks_exact_rest after.b.a) (chunks_exact_rest after.b.b) c.in_ok-sums.sums) on
          ∙ onward m c.args.seed.now i n (chunks_exact_rest before.b.a) (chunks_exact_rest before.b.b) c.in-Some.sent.now c.in-Some.got.now
          (chunks_exact_rest after.b.a) (chunks_exact_rest after.b.b) c.loop-place.sums (Ok c.in_ok-sums.sums) here sent got took.1.0.1.0 took.1.1.1.0
          (c.in_ok-sums.ensures ∙ ap (λ (k : ℕ). step m c.args.seed.now k c.in-Some.sent.now c.in-Some.got.now c.loop-place.sums) took.0.1.1)
          ∙ now.sums;
    }

pub returns-in_err-sums : goal.returns-in_err-sums
returns-in_err-sums g c =
    let m = g.G.Group.model in
    let n = c.args.count in
    let before = c.loop-place.place-iterator in
    let after = c.next.new.self in
    let now = c.loop-place.invariant in
    let took = c.in-Some.ensures.steps in
    let i = before.a.start in
    let here : i < n = let some = took.0.1.0 in let end = now.end in omega arith in
    let p = err_from_is_err_and c.from_residual.result c.from_residual.ensures.1 in
    p.1 ∙ ap (λ f. Err f) p.2
    ∙ onward m c.args.seed.now i n (chunks_exact_rest before.b.a) (chunks_exact_rest before.b.b) c.in-Some.sent.now c.in-Some.got.now
    (chunks_exact_rest after.b.a) (chunks_exact_rest after.b.b) c.loop-place.sums (Err c.in_err-sums.field-0.0) here
    (took.1.0.1.1 ∙ now.wide_sent) (took.1.1.1.1 ∙ now.wide_got) took.1.0.1.0 took.1.1.1.0
    (c.in_err-sums.ensures ∙ ap (λ (k : ℕ). step m c.args.seed.now k c.in-Some.sent.now c.in-Some.got.now c.loop-place.sums) took.0.1.1)
    ∙ now.sums

pub returns : goal.returns
returns g c =
    let m = g.G.Group.model in
    let n = c.args.count in
    let w = m.element_width in
    let ended = c.loop-place.place-iterator in
    let now = c.loop-place.invariant in
    let i = ended.a.start in
    let done : n ≤ i =
    ⊎_elim
    (λ range. let none = range.1.1.0 in let end = now.end in omega arith)
    (λ codes.
    ⊎_elim
    (λ row. let short = row.1.1.0 in none_left n i w (length (chunks_exact_rest ended.b.a)) now.sent (let wide = now.wide_sent in omega arith))
    (λ row. let short = row.1.1.0 in none_left n i w (length (chunks_exact_rest ended.b.b)) now.got (let wide = now.wide_got in omega arith))
    codes.1)
    c.in-None.ensures.steps in
    sym (steps_done m c.args.seed.now i n (chunks_exact_rest ended.b.a) (chunks_exact_rest ended.b.b) c.loop-place.sums done) ∙ now.sums
