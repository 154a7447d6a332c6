use Rattle.std.proofs.Common.{◌-◌, ℕ, List, sym, subst, inr, arith}
use borrow.Rule.Slice.PartMut.{put_mid}
use Rattle.book.proofs.Parts.{zeros_put}
use Rattle.chains.specs.Tables.{zeroed}
use Rattle.chained.specs.Layout.{place, Written}
use Rattle.chained.proofs.Writes.{zero_written, read_places}
use Rattle.chained.proofs.rows.records.wipe.Goals as goal

pub returns : goal.returns
returns c =
    let m = c.args.m.now in
    let cap = c.args.capacity in
    let to = place cap in
    let done = zeros_put m c.fill.new.self 0 to (omega arith) c.requires (c.fill.ensures.after (λ _ e. e)) in
    let n : List ℕ = put_mid 0 (to - 0) m c.fill.new.self in
    subst (λ k. Written cap m n (zeroed k)) (sym (read_places cap m))
    (zero_written cap m n c.requires done.long (λ k hi. done.zeros k (omega arith) hi) (λ k lo. done.others k (inr lo)) (λ k. let t = c.type_inv.m k in omega arith))
