use Rattle.std.proofs.Common.{ℕ, ltb, List, ◌++◌, length, drop, sym, ap, ◌∙◌, arith}
use Rattle.std.proofs.lemmas.List.{drop-append-le, drop_all}
use Rattle.std.proofs.lemmas.Bool.{le-ltb, cond-false}
use Rattle.speed.proofs.told_issued.Goals as goal

pub returns : goal.returns
returns c =
    let out = c.args.out.now in
    let reply = c.args.issued.reply in
    let copied = c.copy_from_slice.ensures.after in
    record {
      most = omega arith;
      short = λ h. absurd (omega arith);
      kept = λ h. absurd (omega arith);
      rest = drop-append-le 137 c.copy_from_slice.new.self (drop 137 out) (omega (arith, ap length copied)) ∙ ap (λ (l : List ℕ). l ++ drop 137 out) (drop_all 137 c.copy_from_slice.new.self (omega (arith, ap length copied)));
      out =
          ap (λ (l : List ℕ). l ++ drop 137 out) copied
          ∙ sym (cond-false (ltb (length out) 137) out (reply ++ drop 137 out) (le-ltb (length out) 137 (omega arith)));
    }
