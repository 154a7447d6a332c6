-- What decoding answers, told by the codes.
use Rattle.std.proofs.Common.{◌≡◌, ℕ, List, Some, None, Ok, Err, Option, sym, refl, ap, ◌∙◌, subst}
use Rattle.std.specs.Option.{ok_or}
use Rattle.faults.specs.declared.GroupFault.TheVariants.{NoElement}
use Rattle.group.specs.Model.{Model}

none_unless : {X : Type 0} (o : Option X) → ((x : X) → o ≡ Some x → ⊥) → o ≡ None
none_unless None h = refl
none_unless (Some x) h = absurd (h x refl)

module _ {E S K : Type 0} (m : Model E S K) where
  pub element_from_code : (bytes : List ℕ) (x : E) → m.code x ≡ bytes → m.element bytes ≡ Some x
  element_from_code bytes x e = subst (λ bs. m.element bs ≡ Some x) e (m.decoded x)

  pub no_element : (bytes : List ℕ) → ((x : E) → m.code x ≡ bytes → ⊥) → m.element bytes ≡ None
  no_element bytes h = none_unless (m.element bytes) (λ x e. h x (m.encoded bytes x e))

  -- what a decoder answers at a code, and at other bytes
  pub decodes : (bytes : List ℕ) (x : E) → m.code x ≡ bytes → Ok x ≡ ok_or (m.element bytes) NoElement
  decodes bytes x e = sym (ap (λ o. ok_or o NoElement) (element_from_code bytes x e))

  pub refuses : (bytes : List ℕ) → ((x : E) → m.code x ≡ bytes → ⊥) → Err NoElement ≡ ok_or (m.element bytes) NoElement
  refuses bytes h = sym (ap (λ o. ok_or o NoElement) (no_element bytes h))

  -- two elements do not share a code
  pub one_code : (x y : E) → m.code x ≡ m.code y → x ≡ y
  one_code x y e = let dx = m.decoded x in let dy = m.decoded y in let same : Some x ≡ Some y = sym dx ∙ ap m.element e ∙ dy in cc
