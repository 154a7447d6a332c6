-- Weighted sums: what a sum that has come so far will answer over the rest, and what it is by its elements.
use Rattle.std.proofs.Common.{◌≡◌, ℕ, zero, suc, ◌+◌, ◌*◌, ◌/◌, ◌%◌, ◌<◌, ◌≤◌, cond, List, [], ◌∷◌, ◌++◌, map, length, take, drop, Some, None, Ok, Err, Option, Result, sym, refl, ap, ◌∙◌, inl, inr, ◌⊎◌, append_assoc, add-zero, add-suc, mul-le-mul_right, suc-mul, mul_comm, suc-add, zero-mul, le_of_mul-le-mul_right, add-one, one-add, arith, length-append, take_at, drop_at, eq-eqb}
use native.Mathlib.Nat.{mod-add-div}
use Rattle.std.proofs.lemmas.Nat.{div-mul-add, mod-mul-add}
use Rattle.std.proofs.lemmas.Bool.{ne_eqb}
use Rattle.std.specs.Option.{ok_or}
use Rattle.faults.specs.declared.WireFault.TheVariants.{WrongLength}
use Rattle.faults.specs.declared.GroupFault.{GroupFault}
use Rattle.faults.specs.declared.GroupFault.TheVariants.{NoElement}
use Rattle.group.specs.Model.{Model}
use Rattle.group.specs.Elements.{null, sum, multiple}
use Rattle.group.specs.Weighted.{put, led, elements, weighed, weighted, summed, weighted_sum}
use Rattle.group.specs.Theorems.{row, Weighs}
use Rattle.group.specs.declared.SumFault.{SumFault}
use Rattle.group.specs.declared.SumFault.TheVariants.{Wire, Item}
use Rattle.group.proofs.Logs.{sum_at}
use Rattle.scalar.proofs.Reckoning.{reckons}
use Rattle.group.proofs.Laws.{lawful, multiple_null}

-- what a decoder answered, as what the bytes stand for
pub some_from_ok : {X : Type 0} (o : Option X) (x : X) (e : GroupFault) → Ok x ≡ ok_or o e → o ≡ Some x
some_from_ok None x e h = let z : ◌≡◌ {A = ℕ} 0 1 = cc in absurd (omega arith)
some_from_ok (Some y) x e h = cc

pub none_from_err : {X : Type 0} (o : Option X) (d e : GroupFault) → Err d ≡ ok_or o e → (o ≡ None) × (d ≡ e)
none_from_err None d e h = (refl, cc)
none_from_err (Some y) d e h = let z : ◌≡◌ {A = ℕ} 0 1 = cc in absurd (omega arith)

-- lengths that are multiples of a width
pub whole_length : (n k w : ℕ) → n / w ≡ k → n % w ≡ 0 → n ≡ k * w
whole_length n k w e r = sym (mod-add-div n w) ∙ omega (arith, mul_comm w (n / w), ap (λ (x : ℕ). x * w) e)

pub length_quotient : (n k w : ℕ) → 0 < w → n ≡ k * w → (n / w ≡ k) × (n % w ≡ 0)
length_quotient n k w h e =
    let sum : n ≡ k * w + 0 = omega arith in
    (ap (λ (x : ℕ). x / w) sum ∙ div-mul-add k w 0 h, ap (λ (x : ℕ). x % w) sum ∙ mod-mul-add k w 0 h)

pub item_within : (at i w n len : ℕ) → i < n → at ≡ i * w → len ≡ n * w → at + w ≤ len
item_within at i w n len h e l = omega (arith, mul-le-mul_right w h, suc-mul i w)

pub drop_some : {X : Type 0} (xs : List X) (i : ℕ) → i < length xs → (x : X) × (drop i xs ≡ x ∷ drop (suc i) xs)
drop_some [] i h = absurd (omega arith)
drop_some (x ∷ xs) zero h = (x, refl)
drop_some (x ∷ xs) (suc i) h = drop_some xs i (omega arith)

fewer : (a b w : ℕ) → 1 ≤ w → suc a * w ≤ b * w → a < b
fewer a b w h le = le_of_mul-le-mul_right le h

module _ {E S K : Type 0} (m : Model E S K) where
  empty : weighted m [] [] ≡ null m
  unfolding weighted null
  empty = refl

  no_weights : (ps : List E) → weighted m [] ps ≡ null m
  unfolding weighted null
  no_weights ps = refl

  no_items : (ss : List S) → weighted m ss [] ≡ null m
  unfolding weighted null
  no_items [] = refl
  no_items (s ∷ ss) = refl

  more : (s : S) (ss : List S) (p : E) (ps : List E) → weighted m (s ∷ ss) (p ∷ ps) ≡ sum m (multiple m s p) (weighted m ss ps)
  unfolding weighted multiple
  more s ss p ps = sym (sum_at m (m.scalars.number s * m.log p) (weighed m ss ps))

  abbrev pub onward_by : E → List S → Result (List E) ℕ → Result E SumFault
  onward_by total ss (Ok ps) = Ok (sum m total (weighted m ss ps))
  onward_by total ss (Err i) = Err (Item i NoElement)

  -- what a sum that has come to a total, and to item i, answers over the rest
  abbrev pub onward : E → ℕ → List ℕ → List S → Result E SumFault
  onward total i codes ss = onward_by total ss (elements m i (length ss) codes)

  onward_put : (total : E) (s : S) (ss : List S) (p : E) (r : Result (List E) ℕ) →
      onward_by total (s ∷ ss) (put p r) ≡ onward_by (sum m total (multiple m s p)) ss r
  onward_put total s ss p (Ok ps) =
      ap (λ x. Ok x) (ap (λ y. sum m total y) (more s ss p ps) ∙ sym ((lawful m).grouped total (multiple m s p) (weighted m ss ps)))
  onward_put total s ss p (Err i) = refl

  pub onward_some : (total : E) (i : ℕ) (codes : List ℕ) (s : S) (ss : List S) (p : E) → m.element (take m.element_width codes) ≡ Some p →
      onward total i codes (s ∷ ss) ≡ onward (sum m total (multiple m s p)) (suc i) (drop m.element_width codes) ss
  onward_some total i codes s ss p e =
      let rest = elements m (suc i) (length ss) (drop m.element_width codes) in
      ap (λ o. onward_by total (s ∷ ss) (led i o rest)) e ∙ onward_put total s ss p rest

  pub onward_none : (total : E) (i : ℕ) (codes : List ℕ) (s : S) (ss : List S) → m.element (take m.element_width codes) ≡ None →
      onward total i codes (s ∷ ss) ≡ Err (Item i NoElement)
  onward_none total i codes s ss e =
      ap (λ o. onward_by total (s ∷ ss) (led i o (elements m (suc i) (length ss) (drop m.element_width codes)))) e

  onward_end : (total : E) (i : ℕ) (codes : List ℕ) → onward total i codes [] ≡ Ok total
  onward_end total i codes = ap (λ x. Ok x) (ap (λ y. sum m total y) empty ∙ (lawful m).neutral total)

  start_by : (ss : List S) (r : Result (List E) ℕ) → onward_by (null m) ss r ≡ summed m ss r
  start_by ss (Ok ps) = ap (λ x. Ok x) ((lawful m).swapped (null m) (weighted m ss ps) ∙ (lawful m).neutral (weighted m ss ps))
  start_by ss (Err i) = refl

  fits : (codes : List ℕ) (ss : List S) → length codes ≡ length ss * m.element_width → weighted_sum m codes ss ≡ summed m ss (elements m 1 (length ss) codes)
  unfolding weighted_sum
  fits codes ss e =
      ap (λ b. cond b (summed m ss (elements m 1 (length ss) codes)) (Err (Wire WrongLength))) (eq-eqb (length codes) (length ss * m.element_width) e)

  pub onward_start : (codes : List ℕ) (ss : List S) → length codes ≡ length ss * m.element_width → onward (null m) 1 codes ss ≡ weighted_sum m codes ss
  onward_start codes ss e = start_by ss (elements m 1 (length ss) codes) ∙ sym (fits codes ss e)

  pub wrong_length : (codes : List ℕ) (ss : List S) → (length codes ≡ length ss * m.element_width → ⊥) → Err (Wire WrongLength) ≡ weighted_sum m codes ss
  unfolding weighted_sum
  wrong_length codes ss h =
      sym (ap (λ b. cond b (summed m ss (elements m 1 (length ss) codes)) (Err (Wire WrongLength))) (ne_eqb (length codes) (length ss * m.element_width) h))

  -- What iterators over codes of one size and over scalars have left, after so many items, answers for the whole.
  abbrev pub Left : E → ℕ → ℕ → List ℕ → List S → Result E SumFault → Type 0
  Left total size count codes ss answer =
      (size ≡ m.element_width) × (length codes ≡ length ss * m.element_width) × (onward total (suc count) codes ss ≡ answer)

  pub all_left : (codes bytes : List ℕ) (scalars ss : List S) (total : E) (size count : ℕ) → length codes ≡ length scalars * m.element_width →
      total ≡ null m → size ≡ m.element_width → count ≡ 0 → bytes ≡ codes → ss ≡ scalars → Left total size count bytes ss (weighted_sum m codes scalars)
  all_left codes bytes scalars ss total size count long none width start same others = (
    width,
    ap length same ∙ long ∙ ap (λ ts. length ts * m.element_width) (sym others),
    ap (λ t. onward t (suc count) bytes ss) none ∙ ap (λ (n : ℕ). onward (null m) (suc n) bytes ss) start ∙
        ap (λ bs. onward (null m) 1 bs ss) same ∙ ap (λ ts. onward (null m) 1 codes ts) others ∙ onward_start codes scalars long,
  )

  -- an item is taken: its code from the codes, and its scalar
  module _ (total : E) (size count : ℕ) (codes code rest : List ℕ) (ss : List S) (s : S) (others : List S) (answer : Result E SumFault)
      (cut : codes ≡ code ++ rest) (long : length code ≡ size) (taken : ss ≡ s ∷ others) (left : Left total size count codes ss answer) where
    width : length code ≡ m.element_width
    width = long ∙ left.0

    front : take m.element_width (code ++ rest) ≡ code
    front = take_at code rest m.element_width width

    here : onward total (suc count) (code ++ rest) (s ∷ others) ≡ answer
    here = sym (ap (λ bs. onward total (suc count) bs ss) cut ∙ ap (λ ts. onward total (suc count) (code ++ rest) ts) taken) ∙ left.2

    fewer_codes : length rest ≡ length others * m.element_width
    fewer_codes =
        let all : length code + length rest ≡ suc (length others) * m.element_width =
        sym (ap length cut ∙ length-append code rest) ∙ left.1 ∙ ap (λ ts. length ts * m.element_width) taken in
        omega (arith, all, width, suc-mul (length others) m.element_width)

    -- with what the calls answered
    pub turned : (p x y : E) (later next : ℕ) → Ok p ≡ ok_or (m.element code) NoElement → x ≡ multiple m s p → y ≡ sum m total x →
        later ≡ size → next ≡ count + 1 → Left y later next rest others answer
    turned p x y later next d f g same more = (
      same ∙ left.0,
      fewer_codes,
      ap (λ (n : ℕ). onward y (suc n) rest others) (more ∙ add-one count) ∙
          ap (λ t. onward t (suc (suc count)) rest others) (g ∙ ap (sum m total) f) ∙
          ap (λ bs. onward (sum m total (multiple m s p)) (suc (suc count)) bs others) (sym (drop_at code rest m.element_width width)) ∙
          sym (onward_some total (suc count) (code ++ rest) s others p (ap m.element front ∙ some_from_ok (m.element code) p NoElement d)) ∙ here,
    )

    pub bad_item : (i : ℕ) (d : GroupFault) → i ≡ count → Err d ≡ ok_or (m.element code) NoElement → Err (Item (i + 1) d) ≡ answer
    bad_item i d same e =
        let none = none_from_err (m.element code) d NoElement e in
        ap (λ (n : ℕ). Err (Item n d)) (add-one i ∙ ap suc same) ∙ ap (λ f. Err (Item (suc count) f)) none.1 ∙
        sym (onward_none total (suc count) (code ++ rest) s others (ap m.element front ∙ none.0)) ∙ here

  -- with no code or no scalar left, the total is the answer
  pub ended : (total : E) (size count : ℕ) (codes : List ℕ) (ss : List S) (answer : Result E SumFault) → Left total size count codes ss answer →
      (length codes < size) ⊎ (length ss ≡ 0) → Ok total ≡ answer
  ended total size count codes [] answer left over = sym (onward_end total (suc count) codes) ∙ left.2
  ended total size count codes (s ∷ ss) answer left (inl short) = absurd (omega (arith, short, left.0, left.1, suc-mul (length ss) m.element_width))
  ended total size count codes (s ∷ ss) answer left (inr none) = absurd (omega arith)

  pub row_length : (ps : List E) → length (row m ps) ≡ length ps * m.element_width
  row_length [] = sym (zero-mul m.element_width)
  row_length (p ∷ ps) =
      length-append (m.code p) (row m ps) ∙ omega (arith, m.coded p, row_length ps, suc-mul (length ps) m.element_width)

  pub elements_row : (i : ℕ) (ps : List E) → elements m i (length ps) (row m ps) ≡ Ok ps
  elements_row i [] = refl
  elements_row i (p ∷ ps) =
      let w = m.element_width in
      ap (λ bs. led i (m.element bs) (elements m (suc i) (length ps) (drop w (m.code p ++ row m ps)))) (take_at (m.code p) (row m ps) w (m.coded p)) ∙
      ap (λ o. led i o (elements m (suc i) (length ps) (drop w (m.code p ++ row m ps)))) (m.decoded p) ∙
      ap (λ bs. put p (elements m (suc i) (length ps) bs)) (drop_at (m.code p) (row m ps) w (m.coded p)) ∙ ap (put p) (elements_row (suc i) ps)

  whole : (ss : List S) (ps : List E) → length ps ≡ length ss → weighted_sum m (row m ps) ss ≡ Ok (weighted m ss ps)
  whole ss ps e =
      fits (row m ps) ss (row_length ps ∙ ap (λ (n : ℕ). n * m.element_width) e) ∙
      ap (λ (n : ℕ). summed m ss (elements m 1 n (row m ps))) (sym e) ∙ ap (summed m ss) (elements_row 1 ps)

  elements_bad : (i n : ℕ) (ps : List E) (bad rest : List ℕ) → length bad ≡ m.element_width → m.element bad ≡ None → length ps < n →
      elements m i n (row m ps ++ (bad ++ rest)) ≡ Err (i + length ps)
  elements_bad i zero ps bad rest l e h = absurd (omega arith)
  elements_bad i (suc n) [] bad rest l e h =
      let w = m.element_width in
      ap (λ bs. led i (m.element bs) (elements m (suc i) n (drop w (bad ++ rest)))) (take_at bad rest w l) ∙
      ap (λ o. led i o (elements m (suc i) n (drop w (bad ++ rest)))) e ∙ ap (λ (k : ℕ). Err k) (sym (add-zero i))
  elements_bad i (suc n) (p ∷ ps) bad rest l e h =
      let w = m.element_width in
      let tail = row m ps ++ (bad ++ rest) in
      ap (λ bs. elements m i (suc n) bs) (append_assoc (m.code p) (row m ps) (bad ++ rest)) ∙
      ap (λ bs. led i (m.element bs) (elements m (suc i) n (drop w (m.code p ++ tail)))) (take_at (m.code p) tail w (m.coded p)) ∙
      ap (λ o. led i o (elements m (suc i) n (drop w (m.code p ++ tail)))) (m.decoded p) ∙
      ap (λ bs. put p (elements m (suc i) n bs)) (drop_at (m.code p) tail w (m.coded p)) ∙
      ap (put p) (elements_bad (suc i) n ps bad rest l e (omega arith)) ∙ ap (λ (k : ℕ). Err k) (suc-add i (length ps) ∙ sym (add-suc i (length ps)))

  first : (ss : List S) (ps : List E) (bad rest : List ℕ) → length bad ≡ m.element_width → m.element bad ≡ None →
      length (row m ps ++ (bad ++ rest)) ≡ length ss * m.element_width →
      weighted_sum m (row m ps ++ (bad ++ rest)) ss ≡ Err (Item (suc (length ps)) NoElement)
  first ss ps bad rest l e h =
      let w = m.element_width in
      let some = m.element_some in
      let total : length ps * w + (w + length rest) ≡ length ss * w =
      omega (arith, row_length ps, length-append (row m ps) (bad ++ rest), length-append bad rest) in
      let long : length ps < length ss = fewer (length ps) (length ss) w some (omega (arith, suc-mul (length ps) w)) in
      fits (row m ps ++ (bad ++ rest)) ss h ∙ ap (summed m ss) (elements_bad 1 (length ss) ps bad rest l e long) ∙
      ap (λ (k : ℕ). Err (Item k NoElement)) (one-add (length ps))

  -- the weighted sum of multiples is the multiple of the weighted sum
  pub weighted_multiple : (k : S) (ss : List S) (ps : List E) → weighted m ss (map (multiple m k) ps) ≡ multiple m k (weighted m ss ps)
  weighted_multiple k [] [] = empty ∙ sym (ap (λ x. multiple m k x) empty ∙ multiple_null m k)
  weighted_multiple k [] (p ∷ ps) = no_weights (map (multiple m k) (p ∷ ps)) ∙ sym (ap (λ x. multiple m k x) (no_weights (p ∷ ps)) ∙ multiple_null m k)
  weighted_multiple k (s ∷ ss) [] = no_items (s ∷ ss) ∙ sym (ap (λ x. multiple m k x) (no_items (s ∷ ss)) ∙ multiple_null m k)
  weighted_multiple k (s ∷ ss) (p ∷ ps) =
      let law = lawful m in
      let field = reckons m.scalars in
      more s ss (multiple m k p) (map (multiple m k) ps) ∙
      ap (λ x. sum m x (weighted m ss (map (multiple m k) ps)))
      (sym (law.twice s k p) ∙ ap (λ t. multiple m t p) (field.products_swapped s k) ∙ law.twice k s p) ∙
      ap (λ x. sum m (multiple m k (multiple m s p)) x) (weighted_multiple k ss ps) ∙ sym (law.spread k (multiple m s p) (weighted m ss ps)) ∙
      ap (λ x. multiple m k x) (sym (more s ss p ps))

  pub weighs : Weighs m
  weighs = record { empty = empty; more = more; carried = weighted_multiple; whole = whole; first = first }
