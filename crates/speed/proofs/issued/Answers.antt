use Rattle.std.proofs.Common.{◌≤◌, length, arith, rules}
use Rattle.speed.proofs.Tapes.{worked}
use Rattle.speed.proofs.issued.Goals as goal

pub returns-in-Ok : goal.returns-in-Ok
returns-in-Ok g c =
    let told = c.told_issued.ensures in
    let done = worked (λ b r. r.accepted ≤ c.args.rounds) (length c.args.memory.now) c.in-Ok.issued c.in-Ok.ensures.answer in
    let most : c.in-Ok.issued.accepted ≤ c.args.rounds = done.1.1 in
    record { most = omega (arith, told.most); none = λ h. absurd (omega (arith, done.0)); stays = search rules; short = told.short; kept = told.kept; rest = told.rest }
