use Rattle.std.proofs.Common.{◌≡◌, ℕ, ◌*◌, ◌/◌, List, length, drop, refl, ap, ◌∙◌, arith, rules}
use Rattle.std.specs.List.{fold}
use Rattle.digest.specs.Constants.{initial}
use Rattle.digest.specs.Sha256.{sha256, chained, compressed}
use Rattle.digest.proofs.Blocks.{closed_whole}
use Rattle.digest.proofs.Chunks.{folded}
use Rattle.digest.proofs.digest.Goals as goal

pub returns : goal.returns
returns c =
    let input = c.args.input.now in
    let n = length input / 64 in
    let front : c.after_blocks-state.result ≡ chained initial n input =
    c.after_blocks-state.ensures ∙ ap (λ (bs : List (List ℕ)). fold compressed initial bs) c.as_chunks.ensures.front ∙ folded initial input n in
    let place : n * 64 ≡ 64 * n = omega arith in
    let rest : c.as_chunks.result.1.now ≡ drop (64 * n) input = c.as_chunks.ensures.back ∙ ap (λ (i : ℕ). drop i input) place in
    let whole = closed_whole initial input n refl in
    let value : c.bytes_of.result ≡ sha256 input = cc in
    search rules
