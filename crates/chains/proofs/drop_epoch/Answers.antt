use Rattle.std.proofs.Common.{◌≡◌, ◌+◌, ◌-◌, sym, ap, ◌∙◌, arith}
use Rattle.chains.specs.Tables.{swept_from}
use Rattle.chains.proofs.Steps.{swept_next, swept_none}
use Rattle.chains.proofs.drop_epoch.Goals as goal

pub loop-chain-preserved : goal.loop-chain-preserved
loop-chain-preserved g c =
    let t = g.R.Records.table c.loop-chain.records in
    let e = c.args.epoch in
    let h = c.loop-chain.chain in
    let less : 64 - (h + 1) ≡ (64 - h) - 1 = omega arith in (
      ap (λ n. swept_from e (h + 1) n (g.R.Records.table c.sweep.new.records)) less
          ∙ ap (swept_from e (h + 1) ((64 - h) - 1)) c.sweep.ensures.table
          ∙ sym (swept_next e h (64 - h) t (omega arith)) ∙ c.loop-chain.invariant.0,
      c.sweep.ensures.beside ∙ c.loop-chain.invariant.1,
    )

pub returns : goal.returns
returns g c =
    let t = g.R.Records.table c.loop-chain.records in
    let e = c.args.epoch in
    let end : 64 - c.loop-chain.chain ≡ 0 = omega arith in
    record {
      table = sym (ap (λ n. swept_from e c.loop-chain.chain n t) end ∙ swept_none e c.loop-chain.chain t) ∙ c.loop-chain.invariant.0;
      beside = c.loop-chain.invariant.1;
      count = omega (arith, c.saturating_sub.ensures, c.count-size.ensures, c.count.ensures);
    }
