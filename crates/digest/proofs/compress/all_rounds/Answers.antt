use Rattle.std.proofs.Common.{◌≡◌, ℕ, ◌+◌, ◌*◌, List, [], get_or, refl, ap, ◌∙◌, arith}
use Rattle.digest.specs.Constants.{round_constants}
use Rattle.digest.specs.Sha256.{rounds, stepped}
use Rattle.digest.proofs.Chunks.{chunk_at, in_chunk}
use Rattle.digest.proofs.Steps.{round_at}
use Rattle.digest.proofs.compress.all_rounds.Goals as goal

pub loop-i-init : goal.loop-i-init
unfolding rounds
loop-i-init c = refl

pub loop-j-init : goal.loop-j-init
loop-j-init c =
    let first : 8 * c.loop-i.i ≡ 8 * c.loop-i.i + 0 = omega arith in
    c.loop-i.invariant ∙ ap (λ (n : ℕ). rounds c.args.words.now n c.args.start) first

pub loop-j-preserved : goal.loop-j-preserved
loop-j-preserved c =
    let w = c.args.words.now in
    let i = c.loop-i.i in
    let j = c.loop-j.j in
    let n = 8 * i + j in
    let ks = get_or c.as_chunks.result.0.now i [] in
    let chunk = ap (λ (cs : List (List ℕ)). get_or cs i []) c.as_chunks.ensures.front ∙ chunk_at 8 8 round_constants [] i (omega arith) in
    let k : get_or ks j 0 ≡ get_or round_constants n 0 = in_chunk 8 round_constants ks i j chunk (omega arith) in
    let step = c.round-v.ensures ∙ ap (λ (k : ℕ). stepped c.loop-j.v k (get_or w n 0)) k in
    round_at w c.args.start n c.loop-j.invariant step (8 * i + (j + 1)) (omega arith)

pub loop-i-preserved : goal.loop-i-preserved
loop-i-preserved c =
    let end : 8 * c.loop-i.i + c.loop-j.j ≡ 8 * (c.loop-i.i + 1) = omega arith in
    c.loop-j.invariant ∙ ap (λ (n : ℕ). rounds c.args.words.now n c.args.start) end

pub returns : goal.returns
returns c =
    let end : 8 * c.loop-i.i ≡ 64 = omega arith in
    c.loop-i.invariant ∙ ap (λ (n : ℕ). rounds c.args.words.now n c.args.start) end
