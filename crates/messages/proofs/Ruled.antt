-- Checks in their order: what is known where all of them pass, and where one of them is the first to fail.
use Rattle.std.proofs.Common.{◌≡◌, ℕ, Bool, true, false, cond, not, eqb, List, [], ◌∷◌, ◌++◌, Ok, Err, Result, sym, refl, ap, ◌∙◌, arith}
use Rattle.std.proofs.lemmas.Bool.{eq-eqb, ne_eqb, eqb-true, not-false, not_from_true, not_from_false}
use Rattle.messages.specs.Answers.{ruled}

-- no check fails
abbrev pub Passes : {E : Type 0} → List (Bool × E) → Type 0
Passes [] = Unit {0}
Passes (x ∷ xs) = (x.0 ≡ false) × Passes xs

-- the fault, or what comes next
abbrev pub after : {T U E : Type 0} → Result T E → Result U E → Result U E
after (Ok x) next = next
after (Err f) next = Err f

never : {X T E : Type 0} {x : T} {f : E} → Ok x ≡ Err f → X
never e = let z : ◌≡◌ {A = ℕ} 0 1 = cc in absurd (omega arith)

pub same_answer : {T E : Type 0} (x y : T) → ◌≡◌ {A = Result T E} (Ok x) (Ok y) → x ≡ y
same_answer x y e = cc

-- a check that two numbers are equal
pub equal_passes : (a b : ℕ) → a ≡ b → not (eqb a b) ≡ false
equal_passes a b e = not_from_true (eqb a b) (eq-eqb a b e)

pub unequal_stops : (a b : ℕ) → (a ≡ b → ⊥) → not (eqb a b) ≡ true
unequal_stops a b h = not_from_false (eqb a b) (ne_eqb a b h)

pub passed_equal : (a b : ℕ) → not (eqb a b) ≡ false → a ≡ b
passed_equal a b e = eqb-true a b (not-false (eqb a b) e)

module _ {T E : Type 0} where
  pub passed : (xs : List (Bool × E)) (next : Result T E) → Passes xs → ruled xs next ≡ next
  passed [] next p = refl
  passed (x ∷ xs) next p = ap (λ b. cond b (Err x.1) (ruled xs next)) p.0 ∙ passed xs next p.1

  pub stopped : (x : Bool × E) (xs : List (Bool × E)) (next : Result T E) → x.0 ≡ true → ruled (x ∷ xs) next ≡ Err x.1
  stopped x xs next e = ap (λ b. cond b (Err x.1) (ruled xs next)) e

  -- the first check that fails, after some that pass
  pub stops : (xs : List (Bool × E)) (x : Bool × E) (ys : List (Bool × E)) (next : Result T E) → Passes xs → x.0 ≡ true →
      ruled (xs ++ (x ∷ ys)) next ≡ Err x.1
  stops [] x ys next p e = stopped x ys next e
  stops (c ∷ xs) x ys next p e = ap (λ b. cond b (Err c.1) (ruled (xs ++ (x ∷ ys)) next)) p.0 ∙ stops xs x ys next p.1 e

  one_passes : (b : Bool) (f : E) (next : Result T E) (v : T) → cond b (Err f) next ≡ Ok v → (b ≡ false) × (next ≡ Ok v)
  one_passes true f next v e = never (sym e)
  one_passes false f next v e = (refl, e)

  -- an answer says that no check failed
  pub passes : (xs : List (Bool × E)) (next : Result T E) (v : T) → ruled xs next ≡ Ok v → Passes xs × (next ≡ Ok v)
  passes [] next v e = (tt, e)
  passes (x ∷ xs) next v e =
      let one = one_passes x.0 x.1 (ruled xs next) v e in
      let more = passes xs next v one.1 in
      ((one.0, more.0), more.1)

  -- the checks first, and then what comes next
  pub ruled_after : {U : Type 0} (xs : List (Bool × E)) (v : U) (next : Result T E) → ruled xs next ≡ after (ruled xs (Ok v)) next
  ruled_after [] v next = refl
  ruled_after (x ∷ xs) v next =
      elim x.0 as (λ b. cond b (Err x.1) (ruled xs next) ≡ after (cond b (Err x.1) (ruled xs (Ok v))) next) [
        | true ↦ refl
        | false ↦ ruled_after xs v next
      ]
