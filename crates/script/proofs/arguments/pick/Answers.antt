use Rattle.std.proofs.Common.{◌≡◌, ◌+◌, ◌/◌, ◌≤◌, length, sym, ap, ◌∙◌, arith}
use Rattle.std.specs.Result.{result_ok}
use Rattle.text.proofs.Numerals.{numerals_are_decimals}
use Rattle.script.proofs.Numbers.{read_ok, one_less}
use Rattle.script.proofs.arguments.pick.Goals as goal
use Rattle.script.proofs.arguments.pick.Goals.{In_ok-before}

-- the token is there
there : (c : In_ok-before) → c.in_ok-before.before + 1 ≤ length c.args.kept.now / 132
there c =
    let read = sym c.read.ensures ∙ read_ok c.read.result c.map_err.result c.in_ok-number.number _ c.map_err.ensures.cases c.map_err.ensures.variant c.in_ok-number.was in
    let least : c.in_ok-number.number ≤ length c.args.kept.now / 132 = (numerals_are_decimals.only _ c.in_ok-number.number _ (omega arith) read).0 in
    let before : c.in_ok-before.before + 1 ≡ c.in_ok-number.number =
    one_less c.in_ok-number.number c.in_ok-before.before c.checked_sub.result c.checked_sub.ensures (c.ok_or.ensures.ok_part ∙ ap result_ok c.in_ok-before.was) in
    omega (arith, least, before)

pub overflow_mul-start : goal.overflow_mul-start
overflow_mul-start c = omega (arith, there c)

pub overflow_add-result : goal.overflow_add-result
overflow_add-result c = omega (arith, there c)

pub slice_bounds-result-end : goal.slice_bounds-result-end
slice_bounds-result-end c = omega (arith, there c)
