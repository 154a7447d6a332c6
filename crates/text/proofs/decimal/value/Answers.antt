use Rattle.std.proofs.Common.{◌≡◌, ◌+◌, ◌-◌, ◌*◌, get_or, drop, sym, ap, ◌∙◌, arith}
use Rattle.std.proofs.lemmas.List.{at_drop_all}
use Rattle.text.specs.Classes.{decimal_digit}
use Rattle.text.specs.Decimals.{number, number_after, within}
use Rattle.text.proofs.Numerals.{is_digit, number_grows, one_more, within_is, above_is}
use Rattle.text.proofs.Runs.{in_run}
use Rattle.text.proofs.decimal.value.Goals as goal

pub overflow_sub-digit : goal.overflow_sub-digit
overflow_sub-digit c = (is_digit _ (in_run decimal_digit c.args.digits.now c.requires c.loop-digit.digit-index c.loop-digit-test.true)).0

pub returns-then-next-from : goal.returns-then-next-from
returns-then-next-from c =
    let t = c.args.digits.now in
    let i = c.loop-digit.digit-index in
    let more = one_more t c.loop-digit.so_far i (number t) c.loop-digit-test.true c.loop-digit.invariant.0 in
    sym (above_is c.args.most (number t) (omega (arith, more, number_grows (c.loop-digit.so_far * 10 + (get_or t i 0 - 48)) (drop (i + 1) t))))

pub loop-digit-preserved : goal.loop-digit-preserved
loop-digit-preserved c =
    let t = c.args.digits.now in
    let i = c.loop-digit.digit-index in
    let same : c.from.result * 10 + c.from-in-loop-digit.result ≡ c.loop-digit.so_far * 10 + (get_or t i 0 - 48) = omega arith in (
      ap (λ n. number_after n (drop (i + 1) t)) same ∙ one_more t c.loop-digit.so_far i (number t) c.loop-digit-test.true c.loop-digit.invariant.0,
      omega arith,
    )

pub returns : goal.returns
returns c =
    let t = c.args.digits.now in
    let all : number_after c.loop-digit.so_far (drop c.loop-digit.digit-index t) ≡ c.loop-digit.so_far = at_drop_all (number_after c.loop-digit.so_far) t _ c.loop-digit-test.false in
    sym (ap (within c.args.most) (sym c.loop-digit.invariant.0 ∙ all) ∙ within_is _ _ c.loop-digit.invariant.1)
