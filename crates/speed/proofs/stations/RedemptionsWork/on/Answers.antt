use Rattle.std.proofs.Common.{◌≡◌, ◌*◌, ◌/◌, ◌≤◌, length, ◌∙◌, subst, arith}
use Rattle.speed.proofs.Rounds.{round_more}
use Rattle.speed.proofs.stations.RedemptionsWork.on.Goals as goal

pub loop-preserved : goal.loop-preserved
loop-preserved g c = (
  c.accepted_of.auto.scratch ∙ c.loop.invariant.0,
  round_more c.loop.counter (length c.args.self.tokens.now / 132) c.loop.accepted c.accepted_of.result _ c.loop.invariant.1 c.accepted_of.ensures
      (omega (arith, c.saturating_add-accepted.ensures)),
)

pub returns : goal.returns
returns g c =
    let e : c.loop.counter ≡ c.args.self.rounds = omega arith in
    subst (λ n. c.loop.accepted ≤ n * (length c.args.self.tokens.now / 132)) e c.loop.invariant.1
