-- What a table holds after a name has new bytes. Assumes nothing.
use Rattle.std.proofs.Common.{◌≡◌, ℕ, Bool, true, false, cond, List, Some, vec_items, Option, Vec, sym, refl, ap, ◌∙◌, subst}
use Rattle.std.proofs.lemmas.Bool.{cases_Bool, cond-true, cond-false}
use Rattle.std.proofs.lemmas.Slice.Eq.{bytes_eq-Decides}
use Rattle.std.specs.Cmp.Lexicographic.{bytes_decides, nat_list_eq_equiv}
use Rattle.std.specs.HashMap.{HashMap, UpdatesBy, get_by}
use Rattle.std.specs.Map.{KeepsOthers}
use Rattle.std.specs.Option.{option_map}
use Rattle.std.specs.Str.{bytes_eq}
use Rattle.std.specs.declared.alloc.Global.{Global}
use mathlib.Core.Logic.{⊎_elim}

pub same : (xs ys : List ℕ) → xs ≡ ys → bytes_eq xs ys ≡ true
same xs ys e = (bytes_eq-Decides xs ys).1 e

not_same : (xs ys : List ℕ) (b : Bool) → bytes_eq xs ys ≡ b → (xs ≡ ys → ⊥) → bytes_eq xs ys ≡ false
not_same xs ys true e h = absurd (h ((bytes_eq-Decides xs ys).0 e))
not_same xs ys false e h = e

pub differ : (xs ys : List ℕ) → (xs ≡ ys → ⊥) → bytes_eq xs ys ≡ false
differ xs ys h = not_same xs ys (bytes_eq xs ys) refl h

-- a key is found by its bytes
abbrev pub bytes_at : {S : Type 0} → HashMap (Vec ℕ Global) (Vec ℕ Global) S → List ℕ → Option (List ℕ)
bytes_at m name = option_map (λ v. vec_items v) (get_by (λ k. bytes_eq name (vec_items k)) m)

-- a key with one name has no other
apart : (name other key : List ℕ) → bytes_eq name other ≡ false → bytes_eq name key ≡ true → bytes_eq other key ≡ false
apart name other key n y = nat_list_eq_equiv.symm other key ∙ sym (nat_list_eq_equiv.congr name key other y) ∙ n

module _ {S : Type 0} (name : List ℕ) (m n : HashMap (Vec ℕ Global) (Vec ℕ Global) S) (v : Vec ℕ Global)
    (put : UpdatesBy (λ x y. bytes_eq (vec_items x) (vec_items y)) (λ k. bytes_eq name (vec_items k)) m n (Some v)) where
  others : (other : List ℕ) → bytes_eq name other ≡ false → bytes_at n other ≡ bytes_at m other
  unfolding KeepsOthers
  others other e =
      ap (option_map (λ v. vec_items v)) (put.3 (λ k. bytes_eq other (vec_items k)) (λ x y. nat_list_eq_equiv.congr other (vec_items x) (vec_items y)) (λ k. apart name other (vec_items k) e))

  -- the name has the new bytes, and every other what it had
  pub bytes_at_put : (other : List ℕ) → bytes_at n other ≡ cond (bytes_eq name other) (Some (vec_items v)) (bytes_at m other)
  bytes_at_put other =
      ⊎_elim
      (λ y. subst (λ l. bytes_at n l ≡ Some (vec_items v)) ((bytes_decides name other).0 y) (ap (option_map (λ v. vec_items v)) put.1) ∙ sym (cond-true (bytes_eq name other) (Some (vec_items v)) (bytes_at m other) y))
      (λ e. others other e ∙ sym (cond-false (bytes_eq name other) (Some (vec_items v)) (bytes_at m other) e))
      (cases_Bool (bytes_eq name other))
