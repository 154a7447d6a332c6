use Rattle.std.proofs.Common.{◌≡◌, ◌*◌, ◌/◌, ◌≤◌, length, subst, arith}
use Rattle.speed.proofs.Rounds.{round_more}
use Rattle.speed.proofs.LookUpsWork.on.Goals as goal

pub loop-preserved : goal.loop-preserved
loop-preserved g c = round_more c.loop.counter (length c.args.self.sought.now / 32) c.loop.found c.found_in.result _ c.loop.invariant c.found_in.ensures (omega (arith, c.saturating_add-found.ensures))

pub returns : goal.returns
returns g c =
    let e : c.loop.counter ≡ c.args.self.rounds = omega arith in
    subst (λ n. c.loop.found ≤ n * (length c.args.self.sought.now / 32)) e c.loop.invariant
