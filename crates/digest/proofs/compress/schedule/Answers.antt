use Rattle.std.proofs.Common.{◌≡◌, ℕ, ◌+◌, ◌*◌, ◌/◌, ◌<◌, List, [], get_or, map, length, take, sym, ap, ◌∙◌, arith}
use Rattle.std.specs.List.{range_with_len}
use Rattle.std.proofs.lemmas.List.{take_more_set, length-set, take_all}
use Rattle.std.proofs.lemmas.List.FromFn.{map-range_with_len_more}
use Rattle.digest.specs.Words.{word_at, σ₀, σ₁}
use Rattle.digest.specs.Sha256.{grown, block_words, next_word}
use Rattle.digest.proofs.Chunks.{chunk_at, word_of}
use Rattle.digest.proofs.Steps.{grown_more, next_of}
use Rattle.digest.proofs.compress.schedule.Goals as goal

pub loop-t-preserved : goal.loop-t-preserved
loop-t-preserved c =
    let block = c.args.block.now in
    let t = c.loop-t.t in
    let w = c.loop-t.words in
    let y = word_at block (4 * t) in
    let inside : t < length w = omega arith in
    let chunk = ap (λ (cs : List (List ℕ)). get_or cs t []) c.as_chunks.ensures.front ∙ chunk_at 4 (length block / 4) block [] t (omega arith) in
    let word : c.from_be_bytes.result ≡ y = c.from_be_bytes.ensures ∙ word_of block _ t chunk in
    let e = take_more_set w t y inside in
    let f = map-range_with_len_more (λ k. word_at block (4 * k)) 0 t t (omega arith) in
    let i = c.loop-t.invariant.0 in
    (cc, simp length-set c.loop-t.invariant.1)

pub loop-i-init : goal.loop-i-init
unfolding grown block_words
loop-i-init c =
    let end : c.loop-t.t ≡ 16 = omega arith in (
      ap (λ (k : ℕ). take k c.loop-t.words) (sym end) ∙ c.loop-t.invariant.0
          ∙ ap (λ (k : ℕ). map (λ t. word_at c.args.block.now (4 * t)) (range_with_len 0 k)) end,
      c.loop-t.invariant.1,
    )

pub loop-j-preserved : goal.loop-j-preserved
unfolding σ₀ σ₁
loop-j-preserved c =
    let block = c.args.block.now in
    let n = 8 * c.loop-i.i + c.loop-j.j in
    let w = c.loop-j.words in
    let y = next_word w n in
    let inside : n + 16 < length w = omega arith in
    let e = take_more_set w (n + 16) y inside in
    let f = grown_more block n in
    let g = next_of w (grown block n) n c.loop-j.invariant.0 in
    let i = c.loop-j.invariant.0 in
    let next : 8 * c.loop-i.i + (c.loop-j.j + 1) + 16 ≡ n + 16 + 1 = omega arith in
    let more : 8 * c.loop-i.i + (c.loop-j.j + 1) ≡ n + 1 = omega arith in
    (cc, simp length-set c.loop-j.invariant.1)

pub returns : goal.returns
returns c =
    let end : 8 * c.loop-i.i ≡ 48 = omega arith in
    sym (take_all 64 c.loop-i.words (omega arith))
    ∙ ap (λ (k : ℕ). take (k + 16) c.loop-i.words) (sym end)
    ∙ c.loop-i.invariant.0
    ∙ ap (λ (k : ℕ). grown c.args.block.now k) end
