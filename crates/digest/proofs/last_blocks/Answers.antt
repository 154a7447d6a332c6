use Rattle.std.proofs.Common.{ℕ, ◌/◌, List, length, ap, ◌∙◌}
use Rattle.std.specs.List.{fold}
use Rattle.digest.specs.Sha256.{compressed, chained}
use Rattle.digest.proofs.Chunks.{folded}
use Rattle.digest.proofs.last_blocks.Goals as goal

pub returns : goal.returns
returns c =
    let state = c.args.state.now in
    let tail = c.write_tail.new.tail in
    c.after_blocks.ensures ∙ ap (λ (bs : List (List ℕ)). fold compressed state bs) c.as_chunks.ensures.front
    ∙ folded state tail (length tail / 64) ∙ ap (λ (bytes : List ℕ). chained state (length bytes / 64) bytes) c.write_tail.ensures
