-- What a host is told is what the bytes are.
use Rattle.std.proofs.Common.{◌≡◌, ℕ, Bool, true, false, cond, eqb, List, length, Some, None, Ok, Err, Option, Result, sym, refl, ap, ◌∙◌, subst, arith}
use Rattle.std.proofs.lemmas.Bool.{eqb-true, eq-eqb}
use Rattle.std.specs.Option.{ok_or}
use Rattle.faults.specs.Numbers.{group_tells}
use Rattle.faults.specs.declared.GroupFault.{GroupFault}
use Rattle.faults.specs.declared.GroupFault.TheVariants.{NoElement}
use Rattle.group.specs.Model.{Model}
use Rattle.host.specs.Told.{element_told, told, Tells}

module _ {E S K : Type 0} (m : Model E S K) (bytes : List ℕ) where
  abbrev fits : Bool
  fits = eqb (length bytes) m.element_width

  by_length : (b : Bool) → fits ≡ b → told m bytes ≡ cond b (element_told (m.element bytes)) 2
  unfolding told
  by_length b e = ap (λ t. cond t (element_told (m.element bytes)) 2) e

  short_by : (b : Bool) → fits ≡ b → (length bytes ≡ m.element_width → ⊥) → told m bytes ≡ 2
  short_by true e h = absurd (h (eqb-true (length bytes) m.element_width e))
  short_by false e h = by_length false e

  -- another length
  pub short : (length bytes ≡ m.element_width → ⊥) → told m bytes ≡ 2
  short = short_by fits refl

  -- the length of a code
  pub whole : length bytes ≡ m.element_width → told m bytes ≡ element_told (m.element bytes)
  whole h = by_length true (eq-eqb (length bytes) m.element_width h)

  codes : (x : E) → m.code x ≡ bytes → told m bytes ≡ 0
  codes x e =
      whole (ap length (sym e) ∙ m.coded x) ∙ ap element_told (ap m.element (sym e) ∙ m.decoded x)

  only_by : (b : Bool) (o : Option E) → fits ≡ b → m.element bytes ≡ o → told m bytes ≡ 0 → (x : E) × (m.code x ≡ bytes)
  only_by true (Some x) f e t = (x, m.encoded bytes x e)
  only_by true None f e t =
      let six : told m bytes ≡ 6 = by_length true f ∙ ap element_told e in absurd (omega arith)
  only_by false o f e t = let two : told m bytes ≡ 2 = by_length false f in absurd (omega arith)

  others_by : (o : Option E) → m.element bytes ≡ o → length bytes ≡ m.element_width → ((x : E) → m.code x ≡ bytes → ⊥) → told m bytes ≡ 6
  others_by (Some x) e h none = absurd (none x (m.encoded bytes x e))
  others_by None e h none = whole h ∙ ap element_told e

  tells : Tells m bytes (told m bytes)
  tells = record {
    codes = codes;
    only_codes = only_by fits (m.element bytes) refl refl;
    lengths = short;
    others = others_by (m.element bytes) refl;
  }

  pub meant : (r : ℕ) → r ≡ told m bytes → Tells m bytes r
  meant r e = subst (Tells m bytes) (sym e) tells

-- what decoding answers, as it is told
pub ok_told : {E : Type 0} (o : Option E) (x : E) → Ok x ≡ ok_or o NoElement → 0 ≡ element_told o
ok_told (Some y) x e = refl
ok_told None x e = let z : ◌≡◌ {A = ℕ} 0 1 = cc in absurd (omega arith)

pub err_told : {E : Type 0} (o : Option E) (f : GroupFault) → ◌≡◌ {A = Result E GroupFault} (Err f) (ok_or o NoElement) → (group_tells f).number ≡ element_told o
err_told (Some y) f e = let z : ◌≡◌ {A = ℕ} 0 1 = cc in absurd (omega arith)
err_told None f e = let same : f ≡ NoElement = cc in ap (λ g. (group_tells g).number) same
