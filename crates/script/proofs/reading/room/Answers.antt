use Rattle.std.proofs.Common.{◌≡◌, ℕ, cond, List, ◌∷◌, Ok, Err, codes, Result, sym, ap, ◌∙◌}
use Rattle.std.proofs.lemmas.Slice.Eq.{slice_eq-Decides}
use Rattle.std.proofs.lemmas.Bool.{both_ways}
use Rattle.std.proofs.lemmas.Bool.Decides.{Decides-eqb}
use Rattle.text.specs.Decimals.{numeral}
use Rattle.script.specs.Reading.{room_of, first_room, rest_of, as_number, Rooms}
use Rattle.script.specs.declared.errors.LineFault.{LineFault}
use Rattle.script.proofs.Table.{same, differ}
use Rattle.script.proofs.reading.room.Goals as goal

full : (at : ℕ) (w : List ℕ) → w ≡ codes "full" → room_of at w ≡ Ok 2112
unfolding room_of
full at w e = ap (λ b. cond b (Ok 2112) (as_number at (numeral 65536 w))) (same _ _ e)

written : (at : ℕ) (w : List ℕ) → (w ≡ codes "full" → ⊥) → room_of at w ≡ as_number at (numeral 65536 w)
unfolding room_of
written at w h = ap (λ b. cond b (Ok 2112) (as_number at (numeral 65536 w))) (differ _ _ h)

-- the first word is taken, and it is read as `r`
taken : (at : ℕ) (w : List ℕ) (before after : List (List ℕ)) (r : Result ℕ LineFault) →
    before ≡ w ∷ after → r ≡ room_of at w → Rooms at before after r
taken at w before after (Ok n) is e = (ap (first_room at) is ∙ sym e, sym (ap rest_of is))
taken at w before after (Err f) is e = ap (first_room at) is ∙ sym e

pub returns-then-eq : goal.returns-then-eq
returns-then-eq c =
    taken _ _ _ _ _ c.in_ok-word.ensures (sym (full _ _ ((slice_eq-Decides Decides-eqb _ _ _ c.eq.ensures).0 c.if-eq.true)))

pub returns : goal.returns
returns c =
    taken _ _ _ _ c.number_of.result c.in_ok-word.ensures
    (c.number_of.ensures ∙ sym (written _ _ (λ h. both_ways _ c.if-eq.false ((slice_eq-Decides Decides-eqb _ _ _ c.eq.ensures).1 h))))
