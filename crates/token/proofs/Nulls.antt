-- An element is the null exactly where its logarithm is 0.
use Rattle.std.proofs.Common.{◌≡◌, ℕ, Bool, true, false, Decides, sym, ap, ◌∙◌, ⊎_elim, arith}
use Rattle.std.proofs.lemmas.Bool.{cases_Bool, eq-eqb, ne_eqb}
use Rattle.group.specs.Model.{Model}
use Rattle.group.specs.Elements.{null}
use Rattle.group.proofs.Logs.{log_null}
use Rattle.group.proofs.Laws.{log_zero}
use Rattle.token.specs.Tokens.{is_null}

module _ {E S K : Type 0} (m : Model E S K) where
  pub null_tested : (p : E) (b : Bool) (z : E) → z ≡ null m → Decides b (p ≡ z) → b ≡ is_null m p
  null_tested p b z e d =
      ⊎_elim
      (λ (t : b ≡ true). t ∙ sym (eq-eqb (m.log p) 0 (ap m.log (d.0 t ∙ e) ∙ log_null m)))
      (λ (f : b ≡ false). f ∙ sym (ne_eqb (m.log p) 0 (λ zero. let t = d.1 (log_zero m p zero ∙ sym e) in let no_way : ◌≡◌ {A = ℕ} 0 1 = cc in omega arith)))
      (cases_Bool b)
