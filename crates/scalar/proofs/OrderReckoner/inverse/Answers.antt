use Rattle.std.proofs.Common.{◌≡◌, ℕ, ◌%◌, ◌<◌, ap, ◌∙◌, mod-lt, mod-eq_of_lt, mul-one, arith}
use Rattle.scalar.proofs.Meets.{zero_inverse, one_inverse}
use Rattle.scalar.proofs.OrderReckoner.inverse.Goals as goal
use Rattle.numbers.proofs.Mod.{nearer, positive}

pub returns-then-s-eq0 : goal.returns-then-s-eq0
returns-then-s-eq0 g c = zero_inverse c.args.self c.args.s (omega arith)

pub loop-a-init : goal.loop-a-init
loop-a-init g c = (
  omega arith,
  c.args.s.below,
  c.args.self.prime.0,
  ap (λ (x : ℕ). x % g.row.Q) (mul-one c.args.s.value) ∙ mod-eq_of_lt c.args.s.below,
)

pub loop-a-preserved : goal.loop-a-preserved
loop-a-preserved g c =
    let inv = c.loop-a.invariant in
    let less : g.row.Q % c.loop-a.a < c.loop-a.a = mod-lt g.row.Q inv.0 in (
      positive (c.args.self.prime.1 c.loop-a.a c.loop-a-test.true inv.1),
      omega arith,
      mod-lt _ (omega arith),
      nearer g.row.Q c.args.s.value c.loop-a.a c.loop-a.m inv.0 inv.1 inv.3,
    )

pub loop-a-smaller : goal.loop-a-smaller
loop-a-smaller g c = mod-lt g.row.Q c.loop-a.invariant.0

pub returns : goal.returns
returns g c =
    let inv = c.loop-a.invariant in
    let one : c.loop-a.a ≡ 1 = omega arith in
    one_inverse c.args.self c.args.s _ (omega arith) (inv.3 ∙ one)
