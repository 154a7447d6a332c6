use Rattle.std.proofs.Common.{◌≡◌, ℕ, ◌-◌, ◌<◌, ◌≤◌, List, [], get_or, ap, inr, arith}
use borrow.Rule.Slice.PartMut.{put_mid}
use Rattle.book.proofs.Sets.{apart_none}
use Rattle.tape.specs.Layout.{firsts, place}
use Rattle.book.proofs.Parts.{zeros_put}
use Rattle.tape.proofs.Steps.{sound_again, zeroed_size}
use Rattle.tape.proofs.records.clear.Goals as goal

pub returns : goal.returns
returns c =
    let m0 = c.args.m.now in
    let cap = c.args.capacity in
    let to = c.start.result in
    let m : List ℕ = put_mid 0 (to - 0) m0 c.fill.new.self in
    let done = zeros_put m0 c.fill.new.self 0 to (omega arith) (omega arith) (c.fill.ensures.after (λ _ e. e)) in
    let zeros : (k : ℕ) → 0 ≤ k → k < place cap → get_or m k 0 ≡ 0 = λ k lo hi. done.zeros k lo (omega arith) in
    let size = zeroed_size m cap zeros in
    let again = sound_again m0 m cap [] c.requires done.long (λ k. let t = c.type_inv.m k in omega arith) (omega arith) (λ k lo hi. zeros k (omega arith) hi)
    (ap (firsts m) size) apart_none (λ k h. done.others k (inr (omega arith))) in
    record { sound = again.0; pairs = ap (firsts m) size; image = again.1 }
