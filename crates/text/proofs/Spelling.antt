-- A number spelt from its last digit on. Assumes nothing.
use Rattle.std.proofs.Common.{◌≡◌, ℕ, ◌+◌, ◌-◌, ◌/◌, ◌%◌, ◌^◌, ◌<◌, ◌≤◌, List, [], ◌∷◌, ◌++◌, length, drop, set, decimal, sym, ap, ◌∙◌, append_assoc, append-nil, arith}
use Rattle.std.proofs.lemmas.Fmt.{decimal_nonempty, decimal_digit, decimal_step, length-decimal-le}
use Rattle.std.proofs.lemmas.List.{length-set, length-drop, length-append, drop-set, drop_all}

-- The digits from `start` on are the last ones of n, and `rest` is the number of those in front of them.
pub record Spelt (n rest start : ℕ) (digits : List ℕ) : Type 0 where
  pub small : n < 2 ^ 64
  pub below : rest < 2 ^ 64
  pub long : length digits ≡ 20
  pub more : decimal rest ++ drop start digits ≡ decimal n

-- before the first of them
pub none_yet : (n : ℕ) (digits : List ℕ) → n < 2 ^ 64 → length digits ≡ 20 → Spelt n n 20 digits
none_yet n digits small long = record {
  small = small;
  below = small;
  long = long;
  more = ap (λ l. decimal n ++ l) (drop_all 20 digits (omega arith)) ∙ append-nil (decimal n);
}

-- twenty digits leave no number in front of them
pub all_spelt : {n rest start : ℕ} {digits : List ℕ} → Spelt n rest start digits → start ≤ 0 → ⊥
all_spelt {n} {rest} {start} {digits} s h =
    let sum = sym (length-append (decimal rest) (drop start digits)) ∙ ap length s.more in
    let twenty = length-decimal-le 20 n (omega arith) (omega (arith, s.small)) s.small in
    omega (arith, sum, twenty, decimal_nonempty rest s.below, length-drop start digits, s.long)

module _ {n rest start : ℕ} {digits : List ℕ} (at digit : ℕ) (s : Spelt n rest start digits) (some : 0 < start) (within : start ≤ 20) (before : at ≡ start - 1) (is : digit ≡ 48 + rest % 10) where
  put : drop at (set digits at digit) ≡ (48 + rest % 10) ∷ drop start digits
  put =
      let here : at + 1 ≡ start = omega arith in
      drop-set digits at digit (omega (arith, s.long)) ∙ (λ i. is i ∷ drop (here i) digits)

  -- the first digit
  pub whole : rest / 10 ≡ 0 → drop at (set digits at digit) ≡ decimal n
  whole none =
      let one : rest < 10 = omega arith in
      let digit_is : rest % 10 ≡ rest = omega arith in
      put ∙ ap (λ k. (48 + k) ∷ drop start digits) digit_is ∙ ap (λ l. l ++ drop start digits) (sym (decimal_digit rest one)) ∙ s.more

  -- a digit with others in front of it
  pub one_more : (rest / 10 ≡ 0 → ⊥) → Spelt n (rest / 10) at (set digits at digit)
  one_more others =
      let ten : 10 ≤ rest = omega arith in
      record {
        small = s.small;
        below = omega (arith, s.below);
        long = length-set digits at digit ∙ s.long;
        more = ap (λ l. decimal (rest / 10) ++ l) put ∙ sym (append_assoc (decimal (rest / 10)) ((48 + rest % 10) ∷ []) (drop start digits)) ∙ ap (λ l. l ++ drop start digits) (sym (decimal_step rest ten s.below)) ∙ s.more;
      }
