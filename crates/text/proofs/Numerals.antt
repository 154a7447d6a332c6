-- Texts of decimal digits, and the numbers that they write. Assumes nothing.
use Rattle.std.proofs.Common.{◌≡◌, ℕ, zero, suc, ◌+◌, ◌-◌, ◌*◌, ◌^◌, ◌<◌, ◌≤◌, Bool, true, false, cond, ◌&&◌, eqb, ltb, List, [], ◌∷◌, length, get_or, drop, Ok, Err, decimal, Result, sym, refl, ap, ◌∙◌, subst, ⊎_elim, arith}
use Rattle.std.proofs.lemmas.List.{at_drop_more}
use Rattle.std.proofs.lemmas.Fmt.{decimal_nonempty, first_decimal, digits_decimal, digits_value-decimal, decimal-digits_value, decimal_digit}
use Rattle.std.proofs.lemmas.Str.Parse.{IsNumeralModel, numerals_by_fold}
use Rattle.std.proofs.lemmas.List.Sums.{prefix_len-le-length}
use Rattle.std.proofs.lemmas.Bool.{eq-eqb, ne_eqb, eqb-true, ltb-true, lt-ltb, le-ltb, and_parts, cases_lt}
use Rattle.std.proofs.lemmas.Bool.Decides.{nat_tests}
use Rattle.std.specs.Int.{IsInRange}
use Rattle.std.specs.List.{prefix_len}
use Rattle.text.specs.Classes as classes
use Rattle.text.specs.Decimals.{number, number_after, within, zero_first, numeral, NumeralsAreDecimals}
use Rattle.text.specs.declared.decimal.NumberFault.{NumberFault}
use Rattle.text.specs.declared.decimal.NumberFault.TheVariants.{Empty, NoDigit, LeadingZero, TooLarge}
use Rattle.text.proofs.Runs.{run_parts, run_of}

pub is_digit : (c : ℕ) → classes.decimal_digit c ≡ true → IsInRange 48 57 c
is_digit c h = (grind (arith, nat_tests), grind (arith, nat_tests))

digit_is : (c : ℕ) → IsInRange 48 57 c → classes.decimal_digit c ≡ true
digit_is c h = grind (arith, nat_tests)

abbrev Digits : List ℕ → Type 0
Digits t = prefix_len classes.decimal_digit t ≡ length t

own : IsNumeralModel Digits number
own = numerals_by_fold Digits (record {
  empty = refl;
  parts = λ c cs h. let p = run_parts classes.decimal_digit c cs h in (is_digit c p.0, p.1);
  more = λ c cs h p. run_of classes.decimal_digit c cs (digit_is c h) p;
}) number_after (record { empty = λ n. refl; more = λ n c cs h. refl })

pub number_grows : (n : ℕ) (cs : List ℕ) → n ≤ number_after n cs
number_grows n [] = omega arith
number_grows n (c ∷ cs) = omega (arith, number_grows (n * 10 + (c - 48)) cs)

module _ (most : ℕ) (t : List ℕ) where
  pub refuses_empty : length t ≡ 0 → numeral most t ≡ Err Empty
  unfolding numeral
  refuses_empty e = rw (eq-eqb (length t) 0 e)

  pub refuses_other : 0 < length t → prefix_len classes.decimal_digit t < length t → numeral most t ≡ Err (NoDigit (prefix_len classes.decimal_digit t))
  unfolding numeral
  refuses_other some h = rw (ne_eqb (length t) 0 (λ e. omega arith), lt-ltb (prefix_len classes.decimal_digit t) (length t) h)

  pub by_zero : 0 < length t → Digits t → numeral most t ≡ cond (zero_first t) (Err LeadingZero) (within most (number t))
  unfolding numeral
  by_zero some h = rw (ne_eqb (length t) 0 (λ e. omega arith), le-ltb (prefix_len classes.decimal_digit t) (length t) (omega arith))

  pub refuses_zero : Digits t → 1 < length t → get_or t 0 0 ≡ 48 → numeral most t ≡ Err LeadingZero
  refuses_zero h two zero-c = by_zero (omega arith) h ∙ ap (λ b. cond b (Err LeadingZero) (within most (number t))) (ap (λ x. x && eqb (get_or t 0 0) 48) (lt-ltb 1 (length t) two) ∙ eq-eqb (get_or t 0 0) 48 zero-c)

  not_first : (1 < length t → get_or t 0 0 ≡ 48 → ⊥) → (b : Bool) → zero_first t ≡ b → zero_first t ≡ false
  not_first other true e =
      let p = and_parts (ltb 1 (length t)) (eqb (get_or t 0 0) 48) e in
      absurd (other (ltb-true 1 (length t) p.0) (eqb-true (get_or t 0 0) 48 p.1))
  not_first other false e = e

  pub reads_others : 0 < length t → Digits t → (1 < length t → get_or t 0 0 ≡ 48 → ⊥) → numeral most t ≡ within most (number t)
  reads_others some h other = by_zero some h ∙ ap (λ b. cond b (Err LeadingZero) (within most (number t))) (not_first other (zero_first t) refl)

-- the number so far, with the digits that are left, is the number of all
pub one_more : (t : List ℕ) (n i v : ℕ) → i < length t → number_after n (drop i t) ≡ v → number_after (n * 10 + (get_or t i 0 - 48)) (drop (i + 1) t) ≡ v
one_more t n i v h e =
    let step : number_after n (drop i t) ≡ number_after (n * 10 + (get_or t i 0 - 48)) (drop (i + 1) t) = at_drop_more (number_after n) t i 0 h in
    sym step ∙ e

pub within_is : (most n : ℕ) → n ≤ most → within most n ≡ Ok n
within_is most n h = rw (le-ltb most n h)

pub above_is : (most n : ℕ) → most < n → within most n ≡ Err TooLarge
above_is most n h = rw (lt-ltb most n h)

first_alone : (n : ℕ) → n < 2 ^ 64 → 1 < length (decimal n) → get_or (decimal n) 0 0 ≡ 48 → ⊥
first_alone zero small two zero-c = let one = ap length (decimal_digit 0 (omega arith)) in omega arith
first_alone (suc n) small two zero-c = omega (arith, first_decimal (suc n) (omega arith) small)

ok_err : {n : ℕ} {f : NumberFault} → ◌≡◌ {A = Result ℕ NumberFault} (Ok n) (Err f) → ⊥
ok_err e = let z : ◌≡◌ {A = ℕ} 0 1 = cc in omega arith

ok_same : {m n : ℕ} → ◌≡◌ {A = Result ℕ NumberFault} (Ok m) (Ok n) → m ≡ n
ok_same e = cc

back : (most n : ℕ) → n ≤ most → most < 2 ^ 64 → numeral most (decimal n) ≡ Ok n
back most n low small =
    let fits : n < 2 ^ 64 = omega arith in
    reads_others most (decimal n) (decimal_nonempty n fits) (digits_decimal own n fits) (first_alone n fits) ∙ ap (within most) (digits_value-decimal own n fits) ∙ within_is most n low

module _ (most n : ℕ) (t : List ℕ) (small : most < 2 ^ 64) (e : numeral most t ≡ Ok n) where
  some : 0 < length t
  some = ⊎_elim (λ h. h) (λ h. absurd (ok_err (sym e ∙ refuses_empty most t (omega arith)))) (cases_lt 0 (length t))

  digits : Digits t
  digits = ⊎_elim (λ h. absurd (ok_err (sym e ∙ refuses_other most t some h))) (λ h. omega (arith, prefix_len-le-length classes.decimal_digit t)) (cases_lt (prefix_len classes.decimal_digit t) (length t))

  alone : 1 < length t → get_or t 0 0 ≡ 48 → ⊥
  alone two zero-c = ok_err (sym e ∙ refuses_zero most t digits two zero-c)

  is_within : within most (number t) ≡ Ok n
  is_within = sym (reads_others most t some digits alone) ∙ e

  low : number t ≤ most
  low = ⊎_elim (λ h. absurd (ok_err (sym is_within ∙ above_is most (number t) h))) (λ h. h) (cases_lt most (number t))

  is_number : number t ≡ n
  is_number = ok_same (sym (within_is most (number t) low) ∙ is_within)

  only : (n ≤ most) × (decimal n ≡ t)
  only = (
    subst (λ k. k ≤ most) is_number low,
    ap decimal (sym is_number) ∙ decimal-digits_value own t digits some (λ zero-c. ⊎_elim (λ two. absurd (alone two zero-c)) (λ one. omega (arith, some)) (cases_lt 1 (length t))) (omega (arith, low)),
  )

pub numerals_are_decimals : NumeralsAreDecimals
numerals_are_decimals = record { back = back; only = only }
