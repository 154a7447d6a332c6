use Rattle.std.proofs.Common.{◌≡◌, [], ◌∷◌, ◌++◌, take, vec_items, ap, ◌∙◌, arith}
use Rattle.std.proofs.lemmas.List.{take_all}
use Rattle.std.proofs.lemmas.Result.{err_from_is_err_and}
use Rattle.text.specs.Hexadecimal.{written}
use Rattle.text.proofs.Written.{written_more, length_written}
use Rattle.text.proofs.hex.write.Goals as goal

pub returns-in_err-reserve : goal.returns-in_err-reserve
returns-in_err-reserve c =
    let p = err_from_is_err_and c.from_residual.result c.from_residual.ensures.1 in
    rw p.1 (c.reserve.ensures.items, omega (arith, c.in_err-reserve.ensures.full, length_written c.args.bytes.now))

pub loop-byte-preserved : goal.loop-byte-preserved
loop-byte-preserved c =
    let high = c.push_reserved.ensures in
    let low = c.push_reserved-in-loop-byte.ensures in (
      low.items ∙ ap (λ t. t ++ c.digit_of-in-loop-byte.result ∷ []) (high.items ∙ ap (λ t. t ++ c.digit_of.result ∷ []) c.loop-byte.invariant.0)
          ∙ written_more (vec_items c.reserve.new.self) c.args.bytes.now c.loop-byte.byte-index _ _ c.loop-byte-test.true c.digit_of.ensures c.digit_of-in-loop-byte.ensures,
      omega (arith, c.loop-byte.invariant.1),
      omega (arith, c.loop-byte.invariant.2),
    )

pub returns : goal.returns
returns c =
    let bytes = c.args.bytes.now in
    let all : written (take c.loop-byte.byte-index bytes) ≡ written bytes = ap written (take_all _ bytes c.loop-byte-test.false) in (
      c.loop-byte.invariant.0 ∙ (λ i. c.reserve.ensures.items i ++ all i),
      omega (arith, c.loop-byte.invariant.2, c.reserve.ensures.capacity),
    )
