-- The loop over the items of a batch, one item on.
use Rattle.std.proofs.Common.{◌≡◌, ℕ, zero, suc, ◌+◌, ◌-◌, ◌*◌, ◌<◌, ◌≤◌, Bool, true, false, cond, List, ◌++◌, length, take, drop, Ok, Err, Result, sym, refl, ap, ◌∙◌, add-mul, one-mul, suc-mul, length-append, arith, eq-eqb}
use Rattle.std.proofs.lemmas.List.{take_at, drop_at}
use Rattle.faults.specs.declared.BatchFault.{BatchFault}
use Rattle.group.specs.Model.{Model}
use Rattle.faults.specs.declared.BatchFault.TheVariants.{BadProof}
use Rattle.std.proofs.lemmas.Bool.Decides.{nat_tests}
use Rattle.std.proofs.lemmas.Bool.{ne_eqb}
use Rattle.group.specs.Elements.{null}
use Rattle.voprf.specs.Proving.{then, step, steps, seed, count, composites, same_number, rechallenge, checked}

-- the place of the next item
pub next_place : (at i w width : ℕ) → at ≡ i * w → width ≡ w → at + width ≡ (i + 1) * w
next_place at i w width e f = omega (arith, add-mul i 1 w, one-mul w)

-- once an item's code is taken off a row, the row has one code less
pub one_less : (n i w : ℕ) (row code rest : List ℕ) → i < n → row ≡ code ++ rest → length code ≡ w → length row ≡ (n - i) * w →
    length rest ≡ (n - (i + 1)) * w
one_less n i w row code rest h parts wide long =
    let one : n - i ≡ suc (n - (i + 1)) = omega arith in
    omega (arith, ap length parts, length-append code rest, ap (λ (k : ℕ). k * w) one, suc-mul (n - (i + 1)) w)

too_short : (k w : ℕ) → k * w < w → k ≡ 0
too_short zero w h = refl
too_short (suc k) w h = absurd (omega (arith, suc-mul k w))

-- a row that is too short for a code has none left
pub none_left : (n i w long : ℕ) → long ≡ (n - i) * w → long < w → n ≤ i
none_left n i w long e h = let none = too_short (n - i) w (omega arith) in omega arith

module _ {E S K : Type 0} (m : Model E S K) where
  steps_more : (s : List ℕ) (i n : ℕ) (bs es : List ℕ) (sums : E × E) → i < n →
      steps m s i (n - i) bs es sums ≡
      then (step m s i (take m.element_width bs) (take m.element_width es) sums)
      (steps m s (i + 1) (n - (i + 1)) (drop m.element_width bs) (drop m.element_width es))
  unfolding steps
  steps_more s i n bs es sums h =
      let one : n - i ≡ suc (n - (i + 1)) = omega arith in ap (λ (k : ℕ). steps m s i k bs es sums) one

  -- with the item's answer in hand, and its codes at the front of the rows
  pub onward : (s : List ℕ) (i n : ℕ) (bs es b e later behind : List ℕ) (sums : E × E) (r : Result (E × E) BatchFault) → i < n →
      length b ≡ m.element_width → length e ≡ m.element_width → bs ≡ b ++ later → es ≡ e ++ behind → r ≡ step m s i b e sums →
      then r (steps m s (i + 1) (n - (i + 1)) later behind) ≡ steps m s i (n - i) bs es sums
  onward s i n bs es b e later behind sums r h lb le here there answer =
      let w = m.element_width in
      let F : List ℕ → List ℕ → List ℕ → List ℕ → Result (E × E) BatchFault =
      λ x y u v. then (step m s i x y sums) (steps m s (i + 1) (n - (i + 1)) u v) in
      ap (λ z. then z (steps m s (i + 1) (n - (i + 1)) later behind)) answer
      ∙ sym
      (steps_more s i n bs es sums h
      ∙ ap (λ (x : List ℕ). F x (take w es) (drop w bs) (drop w es)) (ap (take w) here ∙ take_at b later w lb)
      ∙ ap (λ (y : List ℕ). F b y (drop w bs) (drop w es)) (ap (take w) there ∙ take_at e behind w le)
      ∙ ap (λ (u : List ℕ). F b e u (drop w es)) (ap (drop w) here ∙ drop_at b later w lb)
      ∙ ap (λ (v : List ℕ). F b e later v) (ap (drop w) there ∙ drop_at e behind w le))

  pub steps_done : (s : List ℕ) (i n : ℕ) (bs es : List ℕ) (sums : E × E) → n ≤ i → steps m s i (n - i) bs es sums ≡ Ok sums
  unfolding steps
  steps_done s i n bs es sums h = let none : n - i ≡ 0 = omega arith in ap (λ (k : ℕ). steps m s i k bs es sums) none

  -- rows that fit are summed, others are refused
  pub composites_whole : (pk : E) (bs es : List ℕ) → length bs ≡ count m bs * m.element_width → length es ≡ length bs → count m bs ≤ 16 →
      composites m pk bs es ≡ steps m (seed m pk) 0 (count m bs) bs es (null m, null m)
  unfolding composites
  composites_whole pk bs es a b c = grind (arith, nat_tests)

  pub same_scalars : (s t : S) → s ≡ t → same_number m s t ≡ true
  same_scalars s t e = eq-eqb (m.scalars.number s) (m.scalars.number t) (ap m.scalars.number e)

  pub other_scalars : (s t : S) → (s ≡ t → ⊥) → same_number m s t ≡ false
  other_scalars s t h = ne_eqb (m.scalars.number s) (m.scalars.number t) (λ e. h (m.scalars.faithful s t e))

  -- the verdict on a proof, from its composites and the challenge that it leads back to
  pub judged : (pk : E) (bs es : List ℕ) (p : S × S) (mw : E × E) (back : S) (b : Bool) → Ok mw ≡ composites m pk bs es → back ≡ rechallenge m pk mw p →
      same_number m back p.0 ≡ b → cond b (Ok tt) (Err BadProof) ≡ checked m pk bs es p
  unfolding checked
  judged pk bs es p mw back b e f same =
      let F : Result (E × E) BatchFault → Result (Unit {0}) BatchFault =
      λ r. then r (λ q. cond (same_number m (rechallenge m pk q p) p.0) (Ok tt) (Err BadProof)) in
      ap (λ (v : Bool). cond v (Ok tt) (Err BadProof)) (sym same)
      ∙ ap (λ (x : S). cond (same_number m x p.0) (Ok tt) (Err BadProof)) f
      ∙ ap F e
