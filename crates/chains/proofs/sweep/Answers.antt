use Rattle.std.proofs.Common.{◌≡◌, ◌+◌, ◌-◌, sym, ap, ◌∙◌, inl, inr, arith}
use Rattle.chains.specs.Tables.{at, swept, bridged, freed}
use Rattle.chains.proofs.Steps.{swept_end, swept_hit, swept_miss}
use Rattle.chains.proofs.sweep.Goals as goal
use Rattle.chains.proofs.sweep.Goals.{then-epoch, else-epoch}

pub loop-preserved : goal.loop-preserved
loop-preserved g c =
    let tab = g.R.Records.table in
    let t = tab c.loop.records in
    let e = c.args.epoch in
    let h = c.args.chain in
    let s = c.places-end.result - c.loop.counter in
    let left = c.places-end.result - (c.loop.counter + 1) in
    let b = c.loop.before in
    let k = c.loop.number in
    let next = c.next-next.ensures in
    let read = c.epoch.ensures in
    let less : left ≡ s - 1 = omega arith in
    elim c.if-epoch.branch [
      | then-epoch w ↦
          let u = w.bridge.new.records in
          let v = w.free.new.records in
          let bridge : tab u ≡ bridged t h b (at t k).next = w.bridge.ensures.table ∙ ap (bridged t h b) next in
          let free : tab v ≡ freed (bridged t h b (at t k).next) k = w.free.ensures.table ∙ ap (λ x. freed x k) bridge in (
            ap (λ x. swept e h left x c.next-next.result (tab c.if-epoch.records)) w.before-is
                ∙ ap (λ x. swept e h left b c.next-next.result (tab x)) w.records-is
                ∙ ap (λ x. swept e h left b x (tab v)) next
                ∙ ap (λ x. swept e h x b (at t k).next (tab v)) less
                ∙ ap (swept e h (s - 1) b (at t k).next) free
                ∙ sym (swept_hit e h s b k t (λ z. omega arith) (omega arith) (sym read ∙ w.if-epoch.true))
                ∙ c.loop.invariant.0,
            ap g.R.RecordsMut.beside w.records-is ∙ w.free.ensures.beside ∙ w.bridge.ensures.beside ∙ c.loop.invariant.1,
          )
      | else-epoch w ↦ (
        ap (λ x. swept e h left x c.next-next.result (tab c.if-epoch.records)) w.before-is
            ∙ ap (λ x. swept e h left k c.next-next.result (tab x)) w.records-is
            ∙ ap (λ x. swept e h left k x t) next
            ∙ ap (λ x. swept e h x k (at t k).next t) less
            ∙ sym (swept_miss e h s b k t (λ z. omega arith) (omega arith) (λ q. w.if-epoch.false (read ∙ q)))
            ∙ c.loop.invariant.0,
        ap g.R.RecordsMut.beside w.records-is ∙ c.loop.invariant.1,
      )
    ]

pub returns-then-number-eq0 : goal.returns-then-number-eq0
returns-then-number-eq0 g c = record {
  table = sym (swept_end c.args.epoch c.args.chain (c.places-end.result - c.loop.counter) c.loop.before c.loop.number (g.R.Records.table c.loop.records) (inl (omega arith))) ∙ c.loop.invariant.0;
  beside = c.loop.invariant.1;
}

pub returns : goal.returns
returns g c = record {
  table = sym (swept_end c.args.epoch c.args.chain (c.places-end.result - c.loop.counter) c.loop.before c.loop.number (g.R.Records.table c.loop.records) (inr (omega arith))) ∙ c.loop.invariant.0;
  beside = c.loop.invariant.1;
}
