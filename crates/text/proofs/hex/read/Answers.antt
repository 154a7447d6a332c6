use Rattle.std.proofs.Common.{◌≡◌, ◌*◌, ◌/◌, ◌%◌, List, ℕ, [], ◌++◌, length, get_or, take, drop, Err, sym, refl, ap, ◌∙◌, subst, arith}
use Rattle.std.proofs.lemmas.List.{length-drop}
use Rattle.std.proofs.lemmas.Result.{err_from_is_err_and}
use Rattle.std.proofs.lemmas.List.Sums.{prefix_len-le-length}
use Rattle.std.proofs.lemmas.Bool.{eqb-true, eqb-false}
use Rattle.std.specs.List.{prefix_len}
use Rattle.text.specs.Classes.{hex_digit}
use Rattle.text.specs.Hexadecimal.{paired}
use Rattle.text.proofs.Pairs.{Sofar, pair_at, pair_digits, pair_read, all_read, reads_pairs, refuses_others, refuses_odd, length_paired}
use Rattle.text.proofs.hex.read.Goals as goal
use Rattle.text.proofs.hex.read.Goals.{Else-not-is_empty, In-loop-high, then-place-text-via-then-place-text, then-place-text-via-else-place-text+then-not-is_empty}

-- past the tests the text is digits in pairs
whole : (c : Else-not-is_empty) → (prefix_len hex_digit c.args.text.now ≡ length c.args.text.now) × (length c.args.text.now % 2 ≡ 0)
whole c =
    let none = eqb-true _ 0 (sym c.if-not-is_empty.ensures) in
    (omega (arith, prefix_len-le-length hex_digit c.args.text.now), omega arith)

pub returns-then-place-text : goal.returns-then-place-text
returns-then-place-text c =
    let t = c.args.text.now in (
      elim c.then-place-text.branch [
        | then-place-text-via-then-place-text w ↦ refuses_others t (omega arith) ∙ ap Err (sym c.run-place.ensures.count)
        | then-place-text-via-else-place-text+then-not-is_empty w ↦
            refuses_odd t (λ e. eqb-false _ 0 (sym w.if-not-is_empty.ensures) (c.as_chunks.ensures.back_len ∙ e)) (omega (arith, prefix_len-le-length hex_digit t)) ∙ ap Err (sym c.run-place.ensures.count)
      ],
      refl,
    )

pub returns-in_err-reserve : goal.returns-in_err-reserve
returns-in_err-reserve c =
    let p = err_from_is_err_and c.from_residual.result c.from_residual.ensures.1 in
    let in_pairs = whole (goal.at.returns-in_err-reserve c).Else-not-is_empty in
    rw (p.1, p.2) (
      reads_pairs _ in_pairs.0 in_pairs.1,
      c.reserve.ensures.items,
      omega (arith, c.in_err-reserve.ensures.full, length_paired c.args.text.now in_pairs.1),
    )

pub loop-high-init : goal.loop-high-init
loop-high-init c =
    let in_pairs = whole (goal.at.loop-high-init c).Else-not-is_empty in
    (record { digits = in_pairs.0; even = in_pairs.1; same = refl }, omega (arith, c.in_ok-reserve.ensures.ok))

pair : (c : In-loop-high) → get_or c.as_chunks.result.0.now c.loop-high.high-index [] ≡ take 2 (drop (2 * c.loop-high.high-index) c.args.text.now)
pair c =
    ap (λ (ps : List (List ℕ)). get_or ps c.loop-high.high-index []) c.as_chunks.ensures.front
    ∙ pair_at (length c.args.text.now / 2) c.args.text.now c.loop-high.high-index (omega arith)

pub worth_of-requires : goal.worth_of-requires
worth_of-requires c = (pair_digits _ _ c.args.text.now _ c.loop-high.high-index (pair (goal.at.worth_of-requires c).In-loop-high) (omega arith) c.loop-high.invariant.0).0

pub worth_of-requires-in-loop-high : goal.worth_of-requires-in-loop-high
worth_of-requires-in-loop-high c = (pair_digits _ _ c.args.text.now _ c.loop-high.high-index (pair (goal.at.worth_of-requires-in-loop-high c).In-loop-high) (omega arith) c.loop-high.invariant.0).1

pub loop-high-preserved : goal.loop-high-preserved
loop-high-preserved c = (
  subst (Sofar _ _) (sym c.push_reserved.ensures.items) (pair_read _ _ c.args.text.now _ c.loop-high.high-index (pair (goal.at.loop-high-preserved c).In-loop-high) (omega arith) c.loop-high.invariant.0 _ _ c.worth_of.ensures.0 c.worth_of-in-loop-high.ensures.0),
  omega (arith, c.loop-high.invariant.1),
)

pub returns : goal.returns
returns c =
    let in_pairs = whole (goal.at.returns c).Else-not-is_empty in (
      reads_pairs _ in_pairs.0 in_pairs.1,
      all_read _ _ _ (omega (arith, length-drop (2 * c.loop-high.high-index) c.args.text.now)) c.loop-high.invariant.0 ∙ ap (λ l. l ++ paired c.args.text.now) c.reserve.ensures.items,
    )
