use Rattle.std.proofs.Common.{◌≡◌, ◌+◌, ◌-◌, ◌<◌, ◌≤◌, length, take, drop, sym, ap, ◌∙◌, inl, inr, ⊎_elim, arith, rules}
use borrow.Rule.Slice.PartMut.{put_mid}
use Rattle.std.proofs.lemmas.Slice.{between-put_mid}
use Rattle.book.proofs.Parts.{put_outside}
use Rattle.chained.proofs.nonces.put_nonce.Goals as goal

pub returns : goal.returns
returns c =
    let at = c.args.at in
    let m = c.args.m.now in
    let ys = c.copy_from_slice.new.self in
    let i = c.copy_from_slice.ensures in
    let e : (at + 32) - at ≡ 32 = omega arith in
    let ly : length ys ≡ (at + 32) - at = ap length i.after ∙ (let l : length c.args.nonce.now ≡ 32 = search rules in l ∙ sym e) in
    record {
      there = ap (λ n. take n (drop at (put_mid at ((at + 32) - at) m ys))) (sym e) ∙ between-put_mid at ((at + 32) - at) m ys (at + 32) (omega arith) ly ∙ i.after;
      others = λ k s. put_outside m ys at ((at + 32) - at) k (omega arith) ly (⊎_elim (λ (b : k < at). inl b) (λ (b : at + 32 ≤ k). inr (omega arith)) s);
      bytes = λ k. let t = c.type_inv.m k in omega arith;
    }
