use Rattle.std.proofs.Common.{◌≡◌, ◌<◌, length, get_or, Err, sym, ap, ◌∙◌, arith}
use Rattle.std.proofs.lemmas.List.Sums.{prefix_len-le-length}
use Rattle.std.proofs.lemmas.Bool.{eqb-true, eqb-false}
use Rattle.std.specs.List.{prefix_len}
use Rattle.text.specs.Classes.{decimal_digit}
use Rattle.text.specs.declared.decimal.NumberFault.TheVariants.{NoDigit}
use Rattle.text.proofs.Numerals.{refuses_empty, refuses_other, refuses_zero, reads_others}
use Rattle.text.proofs.decimal.read.Goals as goal
use Rattle.text.proofs.decimal.read.Goals.{Else-is_empty, Else-place-text, else-text-gt1-via-then-text-gt1+else-text-eq48, else-text-gt1-via-else-text-gt1}

some : (c : Else-is_empty) → 0 < length c.args.text.now
some c = let h = eqb-false _ 0 (sym c.if-is_empty.ensures) in omega arith

digits : (c : Else-place-text) → prefix_len decimal_digit c.args.text.now ≡ length c.args.text.now
digits c = omega (arith, prefix_len-le-length decimal_digit c.args.text.now)

pub returns-then-is_empty : goal.returns-then-is_empty
returns-then-is_empty c = sym (refuses_empty _ _ (eqb-true _ 0 (sym c.if-is_empty.ensures)))

pub returns-then-place-text : goal.returns-then-place-text
returns-then-place-text c =
    ap (λ n. Err (NoDigit n)) c.run-place.ensures.count ∙ sym (refuses_other c.args.most _ (some (goal.at.returns-then-place-text c).Else-is_empty) (omega arith))

pub returns-then-text-eq48 : goal.returns-then-text-eq48
returns-then-text-eq48 c =
    sym (refuses_zero c.args.most _ (digits (goal.at.returns-then-text-eq48 c).Else-place-text) c.if-text-gt1.true c.if-text-eq48.true)

pub value-requires : goal.value-requires
value-requires c = digits (goal.at.value-requires c).Else-place-text

pub returns : goal.returns
returns c =
    let t = c.args.text.now in
    let other : 1 < length t → get_or t 0 0 ≡ 48 → ⊥ = λ two zero-c. elim c.else-text-gt1.branch [
      | else-text-gt1-via-then-text-gt1+else-text-eq48 w ↦ w.if-text-eq48.false zero-c
      | else-text-gt1-via-else-text-gt1 w ↦ omega (arith, w.if-text-gt1.false)
    ] in
    c.value.ensures ∙ sym (reads_others c.args.most t (some (goal.at.returns c).Else-is_empty) (digits (goal.at.returns c).Else-place-text) other)
