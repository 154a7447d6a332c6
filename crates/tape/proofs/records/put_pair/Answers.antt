use Rattle.std.proofs.Common.{◌≡◌, ◌+◌, ◌-◌, ◌<◌, ◌≤◌, length, take, drop, sym, ap, ◌∙◌, inl, inr, ⊎_elim, arith, rules}
use borrow.Rule.Slice.PartMut.{put_mid}
use Rattle.std.proofs.lemmas.Slice.{between-put_mid}
use Rattle.book.proofs.Parts.{put_outside}
use Rattle.tape.proofs.Frames.{pair_is}
use Rattle.tape.proofs.records.put_pair.Goals as goal

pub returns : goal.returns
returns c =
    let at = c.args.at in
    let m = c.put_word.new.m in
    let ys = c.copy_from_slice.new.self in
    let w = c.put_word.ensures in
    let i = c.copy_from_slice.ensures in
    let e : (at + 34) - (at + 2) ≡ 32 = omega arith in
    let ln : length m ≡ length c.args.m.now = c.put_word.auto.m in
    let ly : length ys ≡ (at + 34) - (at + 2) = ap length i.after ∙ (let l : length c.args.nonce.now ≡ 32 = search rules in l ∙ sym e) in
    record {
      there = pair_is _ at c.args.epoch c.args.nonce.now
          (cc (w.there, put_outside m ys (at + 2) ((at + 34) - (at + 2)) at (omega arith) ly (inl (omega arith)), put_outside m ys (at + 2) ((at + 34) - (at + 2)) (at + 1) (omega arith) ly (inl (omega arith))))
          (ap (λ n. take n (drop (at + 2) (put_mid (at + 2) ((at + 34) - (at + 2)) m ys))) (sym e) ∙ between-put_mid (at + 2) ((at + 34) - (at + 2)) m ys (at + 34) (omega arith) ly ∙ i.after);
      others = λ k s. put_outside m ys (at + 2) ((at + 34) - (at + 2)) k (omega arith) ly (⊎_elim (λ (b : k < at). inl (omega arith)) (λ (b : at + 34 ≤ k). inr (omega arith)) s)
          ∙ w.others k (⊎_elim (λ (b : k < at). inl b) (λ (b : at + 34 ≤ k). inr (omega arith)) s);
    }
