-- The walk over the items of a batch, one item on.
use Rattle.std.proofs.Common.{◌≡◌, ℕ, zero, suc, ◌+◌, ◌-◌, ◌*◌, ◌/◌, ◌%◌, ◌<◌, ◌≤◌, List, [], ◌∷◌, ◌++◌, length, take, drop, Some, None, Option, Ok, Err, Result, sym, refl, ap, ◌∙◌, subst, arith, Bool, true, false, MatchResult}
use Rattle.std.specs.Option.{UnwrapsOrElse}
use Rattle.std.specs.Simd.{first_chunks}
use Rattle.std.specs.Result.{is_ok}
use Rattle.std.specs.Slice.Iter.{chunks_exact_rest, chunks_exact_size, chunks_exact_steps}
use Rattle.std.specs.declared.slice.ChunksExact.{ChunksExact}
use Rattle.std.proofs.Math.Seq.{take-append_seam, drop-append_seam}
use Rattle.std.proofs.lemmas.List.{drop_all, take_all, length-append, nil_from_length}
use denote.Ref.{Bor}
use Rattle.faults.specs.declared.GroupFault.{GroupFault}
use Rattle.faults.specs.declared.BatchFault.{BatchFault}
use Rattle.faults.specs.declared.BatchFault.TheVariants.{Item}
use Rattle.group.specs.Model.{Model}
use Rattle.token.specs.Tokens.{then}
use Rattle.client.specs.Batches.{of_item, input_under, walked}

front_taken : (w : ℕ) (xs part rest : List ℕ) → xs ≡ part ++ rest → length part ≡ w → part ≡ take w xs
front_taken w xs part rest e long = sym (take-append_seam part rest) ∙ ap (λ (k : ℕ). take k (part ++ rest)) long ∙ ap (take w) (sym e)

front_dropped : (w : ℕ) (xs part rest : List ℕ) → xs ≡ part ++ rest → length part ≡ w → rest ≡ drop w xs
front_dropped w xs part rest e long = sym (drop-append_seam part rest) ∙ ap (λ (k : ℕ). drop k (part ++ rest)) long ∙ ap (drop w) (sym e)

-- whole parts of one width, of which one is taken or none is left
pub record Whole (w : ℕ) (xs : List ℕ) : Type 0 where
  pub many : ℕ
  pub long : length xs ≡ many * w

pub record Taken (w : ℕ) (xs part rest : List ℕ) : Type 0 where
  pub part_is : part ≡ take w xs
  pub rest_is : rest ≡ drop w xs
  pub whole : Whole w rest

pub whole_from : (w : ℕ) (xs : List ℕ) → 1 ≤ w → length xs % w ≡ 0 → Whole w xs
whole_from w xs some e = record { many = length xs / w; long = omega arith }

fewer : (w : ℕ) (xs part rest : List ℕ) (many : ℕ) → length xs ≡ many * w → 1 ≤ w → length xs ≡ length part + length rest → length part ≡ w → Whole w rest
fewer w xs part rest zero e some f long = absurd (omega arith)
fewer w xs part rest (suc k) e some f long = record { many = k; long = omega arith }

none_whole : (w : ℕ) (xs : List ℕ) (many : ℕ) → length xs ≡ many * w → length xs < w → length xs ≡ 0
none_whole w xs zero e short = omega arith
none_whole w xs (suc k) e short = absurd (omega arith)

-- one whole part comes off the front, or there was none and none is made up
pub one_taken : (w : ℕ) (xs part rest : List ℕ) → 1 ≤ w → Whole w xs → xs ≡ part ++ rest → length part ≡ w → Taken w xs part rest
one_taken w xs part rest some whole e long = record {
  part_is = front_taken w xs part rest e long;
  rest_is = front_dropped w xs part rest e long;
  whole = fewer w xs part rest whole.many whole.long some (ap length e ∙ length-append part rest) long;
}

pub none_taken : (w : ℕ) (xs part rest : List ℕ) → Whole w xs → length xs < w → part ≡ [] → rest ≡ xs → Taken w xs part rest
none_taken w xs part rest whole short empty same =
    let none : length xs ≡ 0 = none_whole w xs whole.many whole.long short in
    let all : xs ≡ [] = nil_from_length xs none in
    record {
      part_is = empty ∙ sym all ∙ sym (take_all w xs (omega arith));
      rest_is = same ∙ all ∙ sym (drop_all w xs (omega arith));
      whole = record { many = 0; long = let z : length rest ≡ 0 = ap length same ∙ none in omega arith };
    }

-- what comes of the next answer, where an item without one has an empty one
pub next_taken : (w : ℕ) (s t : ChunksExact ℕ) (o : Option (Bor (List ℕ))) (got : Bor (List ℕ)) → 1 ≤ w → chunks_exact_size s ≡ w → Whole w (chunks_exact_rest s) →
    chunks_exact_steps s o t → UnwrapsOrElse o (λ x. x.now ≡ []) got → Taken w (chunks_exact_rest s) got.now (chunks_exact_rest t)
next_taken w s t None got some size whole steps d =
    let short = steps.1.0 in none_taken w (chunks_exact_rest s) got.now (chunks_exact_rest t) whole (omega arith) d (ap chunks_exact_rest steps.1.1)
next_taken w s t (Some x) got some size whole steps d =
    let same : got.now ≡ x.now = ap (λ (b : Bor (List ℕ)). b.now) d in
    one_taken w (chunks_exact_rest s) got.now (chunks_exact_rest t) some whole
    (steps.1.0 ∙ ap (λ (l : List ℕ). l ++ chunks_exact_rest t) (sym same)) (ap length same ∙ steps.1.1 ∙ size)

-- What a step answers for an item's own blind, where that is what it was given: that the two are equal is proved on its
-- own, and not read off how the code writes the argument, so a body that gives another blind is refused for that blind.
pub of_own_blind : (r : Result (Unit {0}) GroupFault) (made : List ℕ → List ℕ → List ℕ → Result (List ℕ) GroupFault) (input own given got part : List ℕ) →
    MatchResult r (λ _. made input given got ≡ Ok part) (λ e. made input given got ≡ Err e) → given ≡ own →
    MatchResult r (λ _. made input own got ≡ Ok part) (λ e. made input own got ≡ Err e)
of_own_blind r made input own given got part answer same =
    subst (λ (b : List ℕ). MatchResult r (λ _. made input b got ≡ Ok part) (λ e. made input b got ≡ Err e)) same answer

-- what a call that answered made
pub was_made : (r : Result (Unit {0}) GroupFault) (s : Result (List ℕ) GroupFault) (part : List ℕ) → is_ok r ≡ true →
    MatchResult r (λ _. s ≡ Ok part) (λ e. s ≡ Err e) → s ≡ Ok part
was_made (Ok x) s part e made = made
was_made (Err f) s part e made = absurd (let z : ◌≡◌ {A = Bool} false true = e in cc)

-- which fault one that did not answer gave, and that this is what the step answers
pub was_refused : (r : Result (Unit {0}) GroupFault) (f : BatchFault) (R : GroupFault → Type 0) →
    MatchResult r (λ x. ◌≡◌ {A = Result (Unit {0}) BatchFault} (Err f) (Ok x)) R → (e : GroupFault) × (r ≡ Err e) × R e
was_refused (Ok x) f R told = absurd (let z : ◌≡◌ {A = ℕ} 0 1 = cc in omega arith)
was_refused (Err e) f R told = (e, refl, told)

pub refused_for : (r : Result (Unit {0}) GroupFault) (s : Result (List ℕ) GroupFault) (P : Unit {0} → Type 0) (e : GroupFault) →
    r ≡ Err e → MatchResult r P (λ d. s ≡ Err d) → s ≡ Err e
refused_for r s P e is made = subst (λ (x : Result (Unit {0}) GroupFault). MatchResult x P (λ d. s ≡ Err d)) is made

-- how many parts there are
pub parts_many : (w k : ℕ) (xs : List ℕ) → length (first_chunks w k xs) ≡ k
parts_many w zero xs = refl
parts_many w (suc k) xs = let ih = parts_many w k (drop w xs) in omega arith

pub none_many : (k w : ℕ) → k * w < w → k ≡ 0
none_many zero w h = refl
none_many (suc k) w h = absurd (omega arith)

module _ {E S K : Type 0} (m : Model E S K) (step : List ℕ → List ℕ → List ℕ → Result (List ℕ) GroupFault) (epoch : ℕ) (id : List ℕ) where
  -- one item more
  more : (i n : ℕ) (seeds blinds gots front : List ℕ) → i < n →
      walked m step epoch id i (n - i) seeds blinds gots front ≡
      then (of_item i (step (input_under m epoch id (take 64 seeds)) (take m.scalars.width blinds) (take m.element_width gots))) (λ bytes.
      walked m step epoch id (i + 1) (n - (i + 1)) (drop 64 seeds) (drop m.scalars.width blinds) (drop m.element_width gots) (front ++ bytes))
  unfolding walked
  more i n seeds blinds gots front h =
      let one : n - i ≡ suc (n - (i + 1)) = omega arith in ap (λ (k : ℕ). walked m step epoch id i k seeds blinds gots front) one

  -- with the item's parts and what is left in hand
  onward : (i n : ℕ) (seeds blinds gots front input blind got blinds' gots' : List ℕ) → i < n →
      input ≡ input_under m epoch id (take 64 seeds) → blind ≡ take m.scalars.width blinds → got ≡ take m.element_width gots →
      blinds' ≡ drop m.scalars.width blinds → gots' ≡ drop m.element_width gots →
      then (of_item i (step input blind got)) (λ bytes. walked m step epoch id (i + 1) (n - (i + 1)) (drop 64 seeds) blinds' gots' (front ++ bytes)) ≡
      walked m step epoch id i (n - i) seeds blinds gots front
  onward i n seeds blinds gots front input blind got blinds' gots' h a b c e f = rw (a, b, c, e, f) (sym (more i n seeds blinds gots front h))

  none_left : (i n : ℕ) (seeds blinds gots front : List ℕ) → n ≤ i → walked m step epoch id i (n - i) seeds blinds gots front ≡ Ok front
  unfolding walked
  none_left i n seeds blinds gots front h = let none : n - i ≡ 0 = omega arith in ap (λ (k : ℕ). walked m step epoch id i k seeds blinds gots front) none

  module _ (n : ℕ) (seeds blinds gots : List ℕ) where
    abbrev pub all_walked : Result (List ℕ) BatchFault
    all_walked = walked m step epoch id 0 n seeds blinds gots []

    -- what the loop keeps before item i: what is left of the three rows, whose walk on from the bytes in front is all
    pub record Going (i : ℕ) (ss : List (List ℕ)) (bs gs front : List ℕ) : Type 0 where
      pub within : i ≤ n
      pub rest : List ℕ
      pub parted : ss ≡ first_chunks 64 (n - i) rest
      pub blinded_each : length bs ≡ (n - i) * m.scalars.width
      pub whole : Whole m.element_width gs
      pub same : walked m step epoch id i (n - i) rest bs gs front ≡ all_walked

    pub begins : length blinds ≡ n * m.scalars.width → length gots % m.element_width ≡ 0 → Going 0 (first_chunks 64 n seeds) blinds gots []
    begins b g =
        let all : n - 0 ≡ n = omega arith in
        record {
          within = omega arith;
          rest = seeds;
          parted = ap (λ (k : ℕ). first_chunks 64 k seeds) (sym all);
          blinded_each = b ∙ ap (λ (k : ℕ). k * m.scalars.width) (sym all);
          whole = whole_from m.element_width gots m.element_some g;
          same = ap (λ (k : ℕ). walked m step epoch id 0 k seeds blinds gots []) all;
        }

    pub begins_at : (i : ℕ) (ss : List (List ℕ)) (bs gs front : List ℕ) → length blinds ≡ n * m.scalars.width → length gots % m.element_width ≡ 0 →
        i ≡ 0 → ss ≡ first_chunks 64 n seeds → bs ≡ blinds → gs ≡ gots → front ≡ [] → Going i ss bs gs front
    begins_at i ss bs gs front b g e1 e2 e3 e4 e5 = rw (e1, e2, e3, e4, e5) (begins b g)

    module _ (i : ℕ) (ss ss' : List (List ℕ)) (seed bs blind bs' gs got gs' front : List ℕ) (going : Going i ss bs gs front) (h : i < n)
        (s : ss ≡ seed ∷ ss') (b : bs ≡ blind ++ bs') (long : length blind ≡ m.scalars.width) (g : Taken m.element_width gs got gs') where
      seed_first : (seed ≡ take 64 going.rest) × (ss' ≡ first_chunks 64 (n - (i + 1)) (drop 64 going.rest))
      seed_first =
          let one : n - i ≡ suc (n - (i + 1)) = omega arith in
          let e : seed ∷ ss' ≡ take 64 going.rest ∷ first_chunks 64 (n - (i + 1)) (drop 64 going.rest) =
          sym s ∙ going.parted ∙ ap (λ (k : ℕ). first_chunks 64 k going.rest) one in (cc, cc)

      turned : (input : List ℕ) → input ≡ input_under m epoch id seed →
          then (of_item i (step input blind got)) (λ bytes. walked m step epoch id (i + 1) (n - (i + 1)) (drop 64 going.rest) bs' gs' (front ++ bytes)) ≡ all_walked
      turned input is =
          onward i n going.rest bs gs front input blind got bs' gs' h (is ∙ ap (input_under m epoch id) seed_first.0)
          (front_taken m.scalars.width bs blind bs' b long) g.part_is (front_dropped m.scalars.width bs blind bs' b long) g.rest_is
          ∙ going.same

      pub goes_on : (input part : List ℕ) → input ≡ input_under m epoch id seed → step input blind got ≡ Ok part → Going (i + 1) ss' bs' gs' (front ++ part)
      goes_on input part is made = record {
        within = omega arith;
        rest = drop 64 going.rest;
        parted = seed_first.1;
        blinded_each =
            let one : n - i ≡ suc (n - (i + 1)) = omega arith in
            let all = going.blinded_each ∙ ap (λ (k : ℕ). k * m.scalars.width) one in
            let both = ap length b ∙ length-append blind bs' in omega arith;
        whole = g.whole;
        same =
            sym (ap (λ r. then (of_item i r) (λ bytes. walked m step epoch id (i + 1) (n - (i + 1)) (drop 64 going.rest) bs' gs' (front ++ bytes))) made)
            ∙ turned input is;
      }

      pub stops : (input : List ℕ) (f : GroupFault) → input ≡ input_under m epoch id seed → step input blind got ≡ Err f → all_walked ≡ Err (Item (i + 1) f)
      stops input f is made =
          sym (turned input is)
          ∙ ap (λ r. then (of_item i r) (λ bytes. walked m step epoch id (i + 1) (n - (i + 1)) (drop 64 going.rest) bs' gs' (front ++ bytes))) made

    pub ends : (i : ℕ) (ss : List (List ℕ)) (bs gs front : List ℕ) → Going i ss bs gs front → n ≤ i → all_walked ≡ Ok front
    ends i ss bs gs front going h = sym going.same ∙ none_left i n going.rest bs gs front h
