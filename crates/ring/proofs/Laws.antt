-- Opening and closing, place by place.
use Rattle.std.proofs.Common.{◌≡◌, ℕ, ◌+◌, Bool, true, false, cond, eqb, List, [], ◌∷◌, Some, None, Option, sym, refl, ap, ◌∙◌, arith, eq-eqb, eqb-true}
use Rattle.ring.specs.declared.Epoch.{Epoch}
use Rattle.ring.specs.Places.{Place, held, or_else, key_in, freed, closed, taken, full, open_count}
use Rattle.ring.specs.Laws.{RingLaws}

false_true : {P : Type 0} → false ≡ true → P
false_true p = let z : ◌≡◌ {A = ℕ} 0 1 = cc in absurd (omega arith)

module _ {K : Type 0} where
  -- the key at a place whose epoch is another
  held_other : (x : Epoch K) (e : ℕ) → (e ≡ x.number → ⊥) → held (Some x) e ≡ None
  held_other x e ne =
      let P : Bool → Type 0 = λ b. eqb x.number e ≡ b → cond b (Some x.key) None ≡ None in
      elim (eqb x.number e) as P [ true ↦ (λ p. absurd (ne (sym (eqb-true x.number e p)))) | false ↦ (λ p. refl) ] refl

  held_own : (x : Epoch K) → held (Some x) x.number ≡ Some x.key
  held_own x = rw (eq-eqb x.number x.number refl)

  none_rest : (a b : Option K) → or_else a b ≡ None → (a ≡ None) × (b ≡ None)
  none_rest None b p = (refl, p)
  none_rest (Some a) b p = let z : ◌≡◌ {A = ℕ} 0 1 = cc in absurd (omega arith)

  opened : (ps : List (Place K)) (x : Epoch K) → full ps ≡ false → key_in ps x.number ≡ None → key_in (taken x ps) x.number ≡ Some x.key
  opened [] x f n = false_true (sym f)
  opened (None ∷ ps) x f n = ap (λ k. or_else k (key_in ps x.number)) (held_own x)
  opened (Some y ∷ ps) x f n =
      let h = none_rest (held (Some y) x.number) (key_in ps x.number) n in
      ap (λ k. or_else k (key_in (taken x ps) x.number)) h.0 ∙ opened ps x f h.1

  others_opened : (ps : List (Place K)) (x : Epoch K) (e : ℕ) → (e ≡ x.number → ⊥) → key_in (taken x ps) e ≡ key_in ps e
  others_opened [] x e ne = refl
  others_opened (None ∷ ps) x e ne = ap (λ k. or_else k (key_in ps e)) (held_other x e ne)
  others_opened (Some y ∷ ps) x e ne = ap (or_else (held (Some y) e)) (others_opened ps x e ne)

  one_more : (ps : List (Place K)) (x : Epoch K) → full ps ≡ false → open_count (taken x ps) ≡ 1 + open_count ps
  one_more [] x f = false_true (sym f)
  one_more (None ∷ ps) x f = refl
  one_more (Some y ∷ ps) x f = ap (λ n. 1 + n) (one_more ps x f)

  freed_own : (p : Place K) (e : ℕ) → held (freed e p) e ≡ None
  freed_own None e = refl
  freed_own (Some x) e =
      let P : Bool → Type 0 = λ b. eqb x.number e ≡ b → held (cond b None (Some x)) e ≡ None in
      elim (eqb x.number e) as P [ true ↦ (λ p. refl) | false ↦ (λ p. rw p) ] refl

  freed_other : (p : Place K) (e f : ℕ) → (f ≡ e → ⊥) → held (freed e p) f ≡ held p f
  freed_other None e f ne = refl
  freed_other (Some x) e f ne =
      let P : Bool → Type 0 = λ b. eqb x.number e ≡ b → held (cond b None (Some x)) f ≡ held (Some x) f in
      elim (eqb x.number e) as P [
        | true ↦ (λ p. sym (held_other x f (λ q. ne (q ∙ eqb-true x.number e p))))
        | false ↦ (λ p. refl)
      ] refl

  closed_one : (ps : List (Place K)) (e : ℕ) → key_in (closed e ps) e ≡ None
  closed_one [] e = refl
  closed_one (p ∷ ps) e = ap (λ k. or_else k (key_in (closed e ps) e)) (freed_own p e) ∙ closed_one ps e

  others_closed : (ps : List (Place K)) (e f : ℕ) → (f ≡ e → ⊥) → key_in (closed e ps) f ≡ key_in ps f
  others_closed [] e f ne = refl
  others_closed (p ∷ ps) e f ne =
      ap (λ k. or_else k (key_in (closed e ps) f)) (freed_other p e f ne) ∙ ap (or_else (held p f)) (others_closed ps e f ne)

pub ring_laws : (K : Type 0) → RingLaws K
ring_laws K = record {
  opened = opened;
  others_opened = others_opened;
  one_more = one_more;
  closed_one = closed_one;
  others_closed = others_closed;
}
