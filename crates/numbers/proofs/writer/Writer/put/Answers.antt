use Rattle.std.proofs.Common.{ℕ, ◌+◌, ◌-◌, List, ◌++◌, length, take, sym, refl, ap, ◌∙◌, arith, rules}
use Rattle.std.proofs.lemmas.Slice.{take-put_mid, drop-put_mid}
use Rattle.numbers.proofs.writer.Writer.put.Goals as goal

pub returns : goal.returns
returns c =
    let at = c.args.self.now.len in
    let part = c.args.part.now in
    let bytes = c.args.self.now.bytes.now in
    let copied = c.copy_from_slice.ensures.after in
    record {
      lent = refl;
      parts =
          take-put_mid at (at + length part - at) bytes c.copy_from_slice.new.self (at + length part)
          (ap (λ (l : List ℕ). at + length l) (sym copied)) (omega arith)
          ∙ ap (λ (l : List ℕ). take at bytes ++ l) copied;
      rest =
          drop-put_mid at (at + length part - at) bytes c.copy_from_slice.new.self (at + length part) (omega arith) (omega arith)
          (ap length copied ∙ omega arith);
      len = refl;
      room = search rules;
    }
