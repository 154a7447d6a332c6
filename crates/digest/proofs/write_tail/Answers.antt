use Rattle.std.proofs.Common.{◌≡◌, ℕ, ◌-◌, ◌*◌, List, ◌∷◌, ◌++◌, length, replicate, ap, ◌∙◌, arith}
use Rattle.digest.specs.Padding.{eight_bytes, zeros_after}
use Rattle.digest.proofs.Tail.{tail_is, padding_to}
use Rattle.digest.proofs.write_tail.Goals as goal

pub returns : goal.returns
unfolding eight_bytes
returns c =
    let room = c.requires.room in
    let zeros : zeros_after c.args.total ≡ length c.args.tail.now - 9 - length c.args.rest.now = omega arith in
    let last : c.copy_from_slice-2.new.self ≡ eight_bytes (8 * c.args.total) = c.copy_from_slice-2.ensures.after ∙ c.to_be_bytes.ensures in
    tail_is c.args.tail.now c.args.rest.now c.copy_from_slice.new.self c.copy_from_slice-2.new.self _
    c.requires.blank (omega arith) c.copy_from_slice.ensures.after (ap length last) (omega arith)
    ∙ ap (λ (l : List ℕ). c.args.rest.now ++ (0x80 ∷ (replicate (length c.args.tail.now - 9 - length c.args.rest.now) 0 ++ l))) last
    ∙ ap (λ (l : List ℕ). c.args.rest.now ++ l) (padding_to (length c.args.rest.now) c.args.total (length c.args.tail.now) zeros)
