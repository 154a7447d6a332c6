use Rattle.std.proofs.Common.{◌≡◌, ◌+◌, ◌<◌, length, get_or, replicate, sym, refl, ap, ◌∙◌, arith}
use Rattle.std.proofs.lemmas.List.{length-replicate, get_or-replicate}
use Rattle.chains.specs.Tables.{Entry, Table, blank, entry}
use Rattle.chains.proofs.Links.{length_put}
use Rattle.chains.proofs.Steps.{none_chained, one_chained, all_chained}
use Rattle.chains.proofs.clear.Goals as goal

pub loop-number-init : goal.loop-number-init
loop-number-init g c =
    let n = length (g.R.Records.table c.args.records.now).entries in
    let w = c.wipe.ensures.table in
    let es : (g.R.Records.table c.wipe.new.self).entries ≡ replicate n blank = ap (λ (t : Table). t.entries) w in
    let long : length (g.R.Records.table c.wipe.new.self).entries ≡ n = ap length es ∙ length-replicate n blank in (
      ap (λ (t : Table). t.heads) w,
      ap (λ (t : Table). t.size) w,
      refl,
      (λ k lt. ap (λ es. get_or es k blank) es ∙ get_or-replicate n k blank blank (omega arith) ∙ sym (none_chained 1 k (omega arith))),
      refl,
    )

pub loop-number-preserved : goal.loop-number-preserved
loop-number-preserved g c =
    let t = g.R.Records.table c.loop-number.records in
    let k = c.loop-number.number in
    let p = c.put_next.ensures.table in
    let inv = c.loop-number.invariant in
    let e : Entry = record { next = k + 1; epoch = (entry t.entries k).epoch; nonce = (entry t.entries k).nonce } in
    let long : length t.entries ≡ length (g.R.Records.table c.wipe.new.self).entries = inv.2 in
    let inside : k < length t.entries = omega (arith, c.places-number-end.ensures) in (
      ap (λ (u : Table). u.heads) p ∙ inv.0,
      ap (λ (u : Table). u.size) p ∙ inv.1,
      ap (λ (u : Table). length u.entries) p ∙ length_put t.entries k e ∙ inv.2,
      (λ j lt. ap (λ (u : Table). get_or u.entries j blank) p ∙ one_chained t.entries k j (omega arith) inside (omega arith) (λ i b. inv.3 i (omega arith))),
      c.put_next.ensures.beside ∙ inv.4,
    )

pub returns : goal.returns
returns g c =
    let t = g.R.Records.table c.loop-number.records in
    let n = length (g.R.Records.table c.args.records.now).entries in
    let w = c.wipe.ensures.table in
    let inv = c.loop-number.invariant in
    let wiped : length (g.R.Records.table c.wipe.new.self).entries ≡ n = ap (λ (u : Table). length u.entries) w ∙ length-replicate n blank in
    let long : length t.entries ≡ n = inv.2 ∙ wiped in
    record {
      table = c.put_head.ensures.table ∙ all_chained t n c.loop-number.number inv.0 inv.1 long (omega (arith, c.places-number-end.ensures)) (λ some. omega (arith, c.places-number-end.ensures)) (λ j b. inv.3 j (omega arith));
      beside = c.put_head.ensures.beside ∙ inv.4 ∙ c.wipe.ensures.beside;
    }
