-- The loop over the items that `issue` answers, one item on.
use Rattle.std.proofs.Common.{◌≡◌, ℕ, zero, suc, ◌+◌, ◌-◌, ◌*◌, ◌<◌, ◌≤◌, List, ◌++◌, length, take, drop, Ok, Result, sym, ap, ◌∙◌, arith, length-append}
use Rattle.std.proofs.lemmas.List.{take_at, drop_at}
use Rattle.faults.specs.declared.BatchFault.{BatchFault}
use Rattle.group.specs.Model.{Model}
use Rattle.voprf.specs.Blinding.{answered}
use Rattle.token.specs.Tokens.{then, element_of}
use Rattle.station.specs.Issuing.{of_item, answer_codes}

module _ {E S K : Type 0} (m : Model E S K) (k : K) where
  more : (i n : ℕ) (items front : List ℕ) → i < n →
      answer_codes m k i (n - i) items front ≡
      then (of_item i (element_of m (take m.element_width items))) (λ b.
      answer_codes m k (i + 1) (n - (i + 1)) (drop m.element_width items) (front ++ m.code (answered m k b)))
  unfolding answer_codes
  more i n items front h =
      let one : n - i ≡ suc (n - (i + 1)) = omega arith in ap (λ (j : ℕ). answer_codes m k i j items front) one

  -- with the item's element or fault in hand, and the items that come later
  pub onward : (i n : ℕ) (items code later front : List ℕ) (r : Result E BatchFault) → i < n → items ≡ code ++ later → length code ≡ m.element_width →
      r ≡ of_item i (element_of m code) →
      then r (λ b. answer_codes m k (i + 1) (n - (i + 1)) later (front ++ m.code (answered m k b))) ≡ answer_codes m k i (n - i) items front
  onward i n items code later front r h split wide tells =
      let w = m.element_width in
      let first : take w items ≡ code = ap (take w) split ∙ take_at code later w wide in
      let behind : drop w items ≡ later = ap (drop w) split ∙ drop_at code later w wide in
      ap (λ x. then x (λ b. answer_codes m k (i + 1) (n - (i + 1)) later (front ++ m.code (answered m k b)))) (tells ∙ ap (λ (l : List ℕ). of_item i (element_of m l)) (sym first))
      ∙ ap (λ (l : List ℕ). then (of_item i (element_of m (take w items))) (λ b. answer_codes m k (i + 1) (n - (i + 1)) l (front ++ m.code (answered m k b)))) (sym behind)
      ∙ sym (more i n items front h)

  pub finished : (i n : ℕ) (items front : List ℕ) → n ≤ i → answer_codes m k i (n - i) items front ≡ Ok front
  unfolding answer_codes
  finished i n items front h = let none : n - i ≡ 0 = omega arith in ap (λ (j : ℕ). answer_codes m k i j items front) none

-- one item fewer is left
pub fewer : (n i w : ℕ) (items code later : List ℕ) → i < n → length items ≡ (n - i) * w → items ≡ code ++ later → length code ≡ w →
    length later ≡ (n - (i + 1)) * w
fewer n i w items code later h long split wide =
    let one : n - i ≡ (n - (i + 1)) + 1 = omega arith in
    let all : (n - i) * w ≡ (n - (i + 1)) * w + w = ap (λ (x : ℕ). x * w) one ∙ omega arith in
    let parts : length items ≡ length code + length later = ap length split ∙ length-append code later in
    omega arith

-- where less than one is left, there is none
few_left : (x w : ℕ) → x * w < w → x ≡ 0
few_left zero w h = omega arith
few_left (suc x) w h = absurd (omega arith)

pub none_left : (n i w l : ℕ) → l ≡ (n - i) * w → l < w → n ≤ i
none_left n i w l e h = let none = few_left (n - i) w (omega arith) in omega arith
