-- A number that is read is not above the largest one. Assumes nothing.
use Rattle.std.proofs.Common.{◌≡◌, ℕ, ◌+◌, ◌-◌, ◌^◌, ◌<◌, ◌≤◌, List, [], ◌∷◌, Some, None, Ok, Err, Option, Result, sym, refl, ap, ◌∙◌, subst, arith}
use Rattle.std.proofs.lemmas.Bool.{both_ways}
use Rattle.std.specs.Option.{MatchOption, SomeIff}
use Rattle.std.specs.Result.{MatchResult, IfOk, is_ok}
use Rattle.text.proofs.Numerals.{numerals_are_decimals}
use Rattle.text.specs.Decimals.{numeral}
use Rattle.text.specs.declared.decimal.NumberFault.{NumberFault}
use Rattle.script.specs.Reading.{as_number, first_number}
use Rattle.script.specs.declared.errors.LineFault.{LineFault}

module _ (most at n : ℕ) (small : most < 2 ^ 64) where
  read_within : (w : List ℕ) (r : Result ℕ NumberFault) → numeral most w ≡ r → as_number at r ≡ Ok n → n ≤ most
  read_within w (Ok k) is e = subst (λ (v : Result ℕ LineFault). IfOk v (λ m. m ≤ most)) e ((numerals_are_decimals.only most k w small is).0)
  read_within w (Err f) is e = subst (λ (v : Result ℕ LineFault). IfOk v (λ m. m ≤ most)) e tt

  pub first_within : (ws : List (List ℕ)) → first_number most at ws ≡ Ok n → n ≤ most
  first_within [] e = subst (λ (v : Result ℕ LineFault). IfOk v (λ m. m ≤ most)) e tt
  first_within (w ∷ ws) e = read_within w (numeral most w) refl e

-- what was read, where its fault was only told in another way
pub read_ok : (s : Result ℕ NumberFault) (r : Result ℕ LineFault) (n : ℕ) (Q : NumberFault → Type 0) → MatchResult s (λ x. r ≡ Ok x) Q → is_ok r ≡ is_ok s → r ≡ Ok n → s ≡ Ok n
read_ok (Ok x) r n Q m v e = subst (λ (w : Result ℕ LineFault). IfOk w (λ k. ◌≡◌ {A = Result ℕ NumberFault} (Ok x) (Ok k))) (sym m ∙ e) refl
read_ok (Err f) r n Q m v e = absurd (both_ways (is_ok r) v (ap is_ok e))

-- one less
pub one_less : (n b : ℕ) (o : Option ℕ) → SomeIff o (1 ≤ n) (n - 1) → o ≡ Some b → b + 1 ≡ n
one_less n b None s e = subst (λ (o : Option ℕ). MatchOption o (Unit {0}) (λ y. b + 1 ≡ n)) e tt
one_less n b (Some x) s e = subst (λ (o : Option ℕ). MatchOption o (Unit {0}) (λ y. y + 1 ≡ n)) e (omega (arith, s.0, s.1))
