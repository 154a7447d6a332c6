use Rattle.std.proofs.Common.{◌≡◌, ◌+◌, ◌-◌, refl, inl, inr, ◌∙◌, arith}
use Rattle.std.proofs.lemmas.Bool.{false≢true}
use Rattle.std.proofs.lemmas.Bool.Decides.{not_from_Decides}
use Rattle.book.specs.Meaning.{Pair}
use Rattle.chains.proofs.Steps.{ahead_here, ahead_later, ahead_not_here, ahead_none, chained_ahead}
use Rattle.chains.proofs.find.Goals as goal

pub loop-init : goal.loop-init
loop-init g c =
    let all : c.places-end.result - 0 ≡ c.places-end.result = omega arith in
    chained_ahead (g.R.Records.table c.args.records.now) (c.args.epoch, c.args.nonce.now) (c.places-end.result - 0) c.head-number.result c.chain_of.result
    (all ∙ c.places-end.ensures) c.chain_of.ensures c.head-number.ensures

pub returns-then-number-eq0 : goal.returns-then-number-eq0
returns-then-number-eq0 g c =
    (λ e. absurd (false≢true e), λ h. absurd (ahead_none (g.R.Records.table c.args.records.now) (c.places-end.result - c.loop.counter) c.loop.number (c.args.epoch, c.args.nonce.now) (inl (omega arith)) (c.loop.invariant.1 h)))

pub returns-then-holds : goal.returns-then-holds
returns-then-holds g c =
    let t = g.R.Records.table c.args.records.now in
    (λ _. c.loop.invariant.0 (ahead_here t (c.places-end.result - c.loop.counter) c.loop.number (c.args.epoch, c.args.nonce.now) (λ z. omega arith) (omega arith) (c.holds.ensures.0 c.if-holds.true)), λ _. refl)

pub loop-preserved : goal.loop-preserved
loop-preserved g c =
    let t = g.R.Records.table c.args.records.now in
    let steps = c.places-end.result - c.loop.counter in
    let k = c.loop.number in
    let p : Pair = (c.args.epoch, c.args.nonce.now) in
    let less : c.places-end.result - (c.loop.counter + 1) ≡ steps - 1 = omega arith in
    let miss = not_from_Decides c.holds.result c.holds.ensures c.if-holds.false in (
      λ a. c.loop.invariant.0 (ahead_later t steps k p _ _ c.next-number.ensures less (λ z. omega arith) (omega arith) a),
      λ h. ahead_not_here t steps k p _ _ c.next-number.ensures less (λ z. omega arith) (omega arith) miss (c.loop.invariant.1 h),
    )

pub returns : goal.returns
returns g c =
    (λ e. absurd (false≢true e), λ h. absurd (ahead_none (g.R.Records.table c.args.records.now) (c.places-end.result - c.loop.counter) c.loop.number (c.args.epoch, c.args.nonce.now) (inr (omega arith)) (c.loop.invariant.1 h)))
