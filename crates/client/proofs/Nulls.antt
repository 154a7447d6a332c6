-- What is sent for an input is the null exactly where the input maps to the null.
use Rattle.std.proofs.Common.{◌≡◌, ℕ, true, false, List, sym, ap, ◌∙◌, ⊎_elim, eqb-true}
use Rattle.std.proofs.lemmas.Bool.{cases_Bool, both_ways, eq-eqb, ne_eqb}
use Rattle.group.specs.Model.{Model}
use Rattle.group.specs.Elements.{multiple}
use Rattle.group.proofs.Logs.{log_null}
use Rattle.group.proofs.Laws.{log_zero, multiple_null, only_null}
use Rattle.hashing.specs.Hashing.{hash_to_group}
use Rattle.voprf.specs.Blinding.{blinded}
use Rattle.token.specs.Tokens.{is_null}

module _ {E S K : Type 0} (m : Model E S K) where
  -- a scalar that is not 0 takes the null to the null, and no other element
  pub multiple_is_null : (r : K) (p : E) → is_null m (multiple m (m.scalars.part r) p) ≡ is_null m p
  multiple_is_null r p =
      let s = m.scalars.part r in
      let x = multiple m s p in
      ⊎_elim
      (λ (t : is_null m p ≡ true).
      eq-eqb (m.log x) 0 (ap m.log (ap (λ y. multiple m s y) (log_zero m p (eqb-true (m.log p) 0 t)) ∙ multiple_null m s) ∙ log_null m) ∙ sym t)
      (λ (f : is_null m p ≡ false).
      ne_eqb (m.log x) 0 (λ z. both_ways (is_null m p) f (eq-eqb (m.log p) 0 (ap m.log (only_null m r p (log_zero m x z)) ∙ log_null m))) ∙ sym f)
      (cases_Bool (is_null m p))

  pub blinded_is_null : (r : K) (input : List ℕ) → is_null m (blinded m r input) ≡ is_null m (hash_to_group m input)
  unfolding blinded
  blinded_is_null r input = multiple_is_null r (hash_to_group m input)
