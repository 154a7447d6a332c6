-- The test for two equal byte strings, against their equality.
use Rattle.std.proofs.Common.{◌≡◌, ℕ, Bool, true, false, ◌&&◌, eqb, List, [], ◌∷◌, sym, refl, ap, ◌∙◌, not, arith, eq-eqb, eqb-true}
use lib.Pointwise.{pointwise}
use Rattle.station.specs.Redeeming.{same}

false_true : {P : Type 0} → false ≡ true → P
false_true p = let z : ◌≡◌ {A = ℕ} 0 1 = cc in absurd (omega arith)

both : (a b : Bool) → (a && b) ≡ true → (a ≡ true) × (b ≡ true)
both true b p = (refl, p)
both false b p = false_true p

pub same_true : (a b : List ℕ) → same a b ≡ true → a ≡ b
same_true [] [] p = refl
same_true [] (y ∷ b) p = false_true p
same_true (x ∷ a) [] p = false_true p
same_true (x ∷ a) (y ∷ b) p =
    let h = both (eqb x y) (same a b) p in
    let e = eqb-true x y h.0 in
    let t = same_true a b h.1 in
    (λ i. e i ∷ t i)

pub same_refl : (a : List ℕ) → same a a ≡ true
same_refl [] = refl
same_refl (x ∷ a) = rw (eq-eqb x x refl) (same_refl a)

-- the test that `==` makes
pub same_pointwise : (a b : List ℕ) → pointwise eqb a b ≡ same a b
same_pointwise [] [] = refl
same_pointwise [] (y ∷ b) = refl
same_pointwise (x ∷ a) [] = refl
same_pointwise (x ∷ a) (y ∷ b) = ap (λ t. eqb x y && t) (same_pointwise a b)

-- the test that `!=` makes, on bytes behind another name
pub other_tested : (a b d : List ℕ) (r t : Bool) → r ≡ not (pointwise eqb a b) → b ≡ d → r ≡ t → not (same a d) ≡ t
other_tested a b d r t e f g = ap (λ l. not (same a l)) (sym f) ∙ ap not (sym (same_pointwise a b)) ∙ sym e ∙ g
