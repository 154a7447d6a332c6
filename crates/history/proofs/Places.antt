-- The places of a ring: how often an epoch stands there, and how many are open.
use Rattle.std.proofs.Common.{◌≡◌, ℕ, suc, ◌+◌, ◌<◌, ◌≤◌, Bool, true, false, cond, eqb, leb, ◌⊎◌, List, [], ◌∷◌, length, Some, None, Option, sym, refl, ap, ◌∙◌, inl, inr, ⊎_elim, arith}
use Rattle.std.proofs.lemmas.Bool.{le-leb, lt-leb, cases_lt}
use Rattle.ring.specs.declared.Epoch.{Epoch}
use Rattle.ring.specs.Places.{Place, held, or_else, key_in, freed, closed, taken, full, open_count}
use Rattle.history.specs.Kept.{stands, times}
use Rattle.history.proofs.Steps.{none_some}

leb_suc : (a b : ℕ) → leb a b ≡ leb (suc a) (1 + b)
leb_suc a b =
    ⊎_elim
    (λ (h : a < suc b). le-leb a b (omega arith) ∙ sym (le-leb (suc a) (1 + b) (omega arith)))
    (λ (h : suc b ≤ a). lt-leb a b (omega arith) ∙ sym (lt-leb (suc a) (1 + b) (omega arith)))
    (cases_lt a (suc b))

module _ {K : Type 0} where
  held_stands : (e : ℕ) (p : Place K) → held p e ≡ None → stands e p ≡ 0
  held_stands e None n = refl
  held_stands e (Some x) n =
      let P : Bool → Type 0 = λ b. cond b (Some x.key) None ≡ None → ◌≡◌ {A = ℕ} (cond b 1 0) 0 in
      elim (eqb x.number e) as P [ true ↦ (λ z. none_some (sym z)) | false ↦ (λ z. refl) ] n

  held_found : (e : ℕ) (p : Place K) (k : K) → held p e ≡ Some k → stands e p ≡ 1
  held_found e None k n = none_some n
  held_found e (Some x) k n =
      let P : Bool → Type 0 = λ b. cond b (Some x.key) None ≡ Some k → ◌≡◌ {A = ℕ} (cond b 1 0) 1 in
      elim (eqb x.number e) as P [ true ↦ (λ z. refl) | false ↦ (λ z. none_some z) ] n

  none_first : (a b : Option K) → or_else a b ≡ None → (a ≡ None) × (b ≡ None)
  none_first None b p = (refl, p)
  none_first (Some a) b p = none_some (sym p)

  some_either : (a b : Option K) (k : K) → or_else a b ≡ Some k → (a ≡ Some k) ⊎ (b ≡ Some k)
  some_either None b k p = inr p
  some_either (Some a) b k p = inl p

  pub none_times : (e : ℕ) (ps : List (Place K)) → key_in ps e ≡ None → times e ps ≡ 0
  none_times e [] n = refl
  none_times e (p ∷ ps) n =
      let h = none_first (held p e) (key_in ps e) n in
      let a = held_stands e p h.0 in let b = none_times e ps h.1 in omega arith

  pub found_times : (e : ℕ) (ps : List (Place K)) (k : K) → key_in ps e ≡ Some k → 1 ≤ times e ps
  found_times e [] k n = none_some n
  found_times e (p ∷ ps) k n =
      elim (some_either (held p e) (key_in ps e) k n) [
        | inl h ↦ (let a = held_found e p k h in omega arith)
        | inr h ↦ (let b = found_times e ps k h in omega arith)
      ]

  pub times_taken : (e : ℕ) (x : Epoch K) (ps : List (Place K)) → times e (taken x ps) ≤ times e ps + cond (eqb x.number e) 1 0
  times_taken e x [] = omega arith
  times_taken e x (None ∷ ps) = omega arith
  times_taken e x (Some y ∷ ps) = let a = times_taken e x ps in omega arith

  freed_stands : (e f : ℕ) (p : Place K) → stands f (freed e p) ≤ stands f p
  freed_stands e f None = omega arith
  freed_stands e f (Some x) =
      let P : Bool → Type 0 = λ b. stands f (cond b None (Some x)) ≤ cond (eqb x.number f) 1 0 in
      elim (eqb x.number e) as P [ true ↦ omega arith | false ↦ omega arith ]

  pub times_closed : (e f : ℕ) (ps : List (Place K)) → times f (closed e ps) ≤ times f ps
  times_closed e f [] = omega arith
  times_closed e f (p ∷ ps) = let a = freed_stands e f p in let b = times_closed e f ps in omega arith

  pub fewer : (e : ℕ) (ps : List (Place K)) → open_count (closed e ps) + times e ps ≡ open_count ps
  fewer e [] = refl
  fewer e (None ∷ ps) = let a = fewer e ps in omega arith
  fewer e (Some x ∷ ps) =
      let a = fewer e ps in
      let P : Bool → Type 0 = λ b. open_count (cond b None (Some x) ∷ closed e ps) + (cond b 1 0 + times e ps) ≡ 1 + open_count ps in
      elim (eqb x.number e) as P [ true ↦ omega arith | false ↦ omega arith ]

  count_within : (ps : List (Place K)) → open_count ps ≤ length ps
  count_within [] = omega arith
  count_within (None ∷ ps) = let a = count_within ps in omega arith
  count_within (Some x ∷ ps) = let a = count_within ps in omega arith

  pub full_count : (ps : List (Place K)) → full ps ≡ leb (length ps) (open_count ps)
  full_count [] = refl
  full_count (None ∷ ps) = let a = count_within ps in sym (lt-leb (suc (length ps)) (open_count ps) (omega arith))
  full_count (Some x ∷ ps) = full_count ps ∙ leb_suc (length ps) (open_count ps)

  pub length_taken : (x : Epoch K) (ps : List (Place K)) → length (taken x ps) ≡ length ps
  length_taken x [] = refl
  length_taken x (None ∷ ps) = refl
  length_taken x (Some y ∷ ps) = ap suc (length_taken x ps)

  pub length_closed : (e : ℕ) (ps : List (Place K)) → length (closed e ps) ≡ length ps
  length_closed e [] = refl
  length_closed e (p ∷ ps) = ap suc (length_closed e ps)
