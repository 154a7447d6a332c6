-- What `finish` answers, from what its steps answered.
use Rattle.std.proofs.Common.{◌≡◌, ℕ, ◌≤◌, List, [], ◌++◌, length, drop, Ok, Err, Result, sym, refl, ap, ◌∙◌, ◌<◌}
use Rattle.std.specs.Option.{ok_or}
use Rattle.std.proofs.lemmas.Bool.{lt-ltb, le-ltb}
use Rattle.faults.specs.declared.WireFault.TheVariants.{ShortScratch}
use Rattle.faults.specs.declared.GroupFault.{GroupFault}
use Rattle.faults.specs.declared.GroupFault.TheVariants.{NoScalar}
use Rattle.faults.specs.declared.BatchFault.{BatchFault}
use Rattle.faults.specs.declared.BatchFault.TheVariants.{Wire, Group}
use Rattle.scalar.specs.Scalars.{scalar_of}
use Rattle.group.specs.Model.{Model}
use Rattle.hashing.specs.Hashing.{key_id}
use Rattle.voprf.specs.Proving.{checked}
use Rattle.messages.specs.Answers.{over}
use Rattle.messages.specs.Messages.{Answers}
use Rattle.token.specs.Tokens.{then, of_group}
use Rattle.client.specs.Batches.{walked}
use Rattle.client.specs.Finishing.{code_again, token_made, finish_vetted, confirmed, finish_answer}
use Rattle.client.proofs.Following.{then_ok, tokens_follow, ok_err}

-- the bytes at the front, and the rest as it was
pub laid_over : (n : ℕ) (bytes old : List ℕ) → length bytes ≡ n → bytes ++ drop n old ≡ over bytes old
unfolding over
laid_over n bytes old long = ap (λ (k : ℕ). bytes ++ drop k old) (sym long)

module _ {E S K : Type 0} (m : Model E S K) (pk : E) (id seeds blinds : List ℕ) (got : Answers) where
  abbrev by_s : List ℕ → S → Result S BatchFault → Result (Unit {0}) BatchFault
  by_s codes c r = then r (λ s. checked m pk codes got.items (c, s))

  abbrev by_c : List ℕ → Result S BatchFault → Result (Unit {0}) BatchFault
  by_c codes r = then r (λ c. by_s codes c (of_group (ok_or (scalar_of m.scalars got.response) NoScalar)))

  abbrev by_codes : Result (List ℕ) BatchFault → Result (Unit {0}) BatchFault
  by_codes r = then r (λ codes. by_c codes (of_group (ok_or (scalar_of m.scalars got.challenge) NoScalar)))

  abbrev walk_of : Result (List ℕ) BatchFault
  walk_of = walked m (code_again m) got.epoch id 0 got.count seeds blinds got.items []

  pub items_stop : (f : BatchFault) → walk_of ≡ Err f → confirmed m pk id seeds blinds got ≡ Err f
  unfolding confirmed
  items_stop f e = ap by_codes e

  module _ (codes : List ℕ) (walks : walk_of ≡ Ok codes) where
    pub c_stops : (f : GroupFault) → Err f ≡ ok_or (scalar_of m.scalars got.challenge) NoScalar → confirmed m pk id seeds blinds got ≡ Err (Group f)
    unfolding confirmed
    c_stops f e = ap by_codes walks ∙ ap (λ r. by_c codes (of_group r)) (sym e)

    module _ (c : S) (read-c : Ok c ≡ ok_or (scalar_of m.scalars got.challenge) NoScalar) where
      pub s_stops : (f : GroupFault) → Err f ≡ ok_or (scalar_of m.scalars got.response) NoScalar → confirmed m pk id seeds blinds got ≡ Err (Group f)
      unfolding confirmed
      s_stops f e = ap by_codes walks ∙ ap (λ r. by_c codes (of_group r)) (sym read-c) ∙ ap (λ r. by_s codes c (of_group r)) (sym e)

      pub judged : (s : S) → Ok s ≡ ok_or (scalar_of m.scalars got.response) NoScalar → confirmed m pk id seeds blinds got ≡ checked m pk codes got.items (c, s)
      unfolding confirmed
      judged s e = ap by_codes walks ∙ ap (λ r. by_c codes (of_group r)) (sym read-c) ∙ ap (λ r. by_s codes c (of_group r)) (sym e)

  -- where a reply is confirmed, the second pass does not fault
  pub tokens_come : confirmed m pk id seeds blinds got ≡ Ok tt →
      (tokens : List ℕ) × (walked m (token_made m) got.epoch id 0 got.count seeds blinds got.items [] ≡ Ok tokens)
  unfolding confirmed
  tokens_come e =
      let one = then_ok walk_of (λ codes. by_c codes (of_group (ok_or (scalar_of m.scalars got.challenge) NoScalar))) tt e in
      tokens_follow m got.epoch id 0 got.count seeds blinds got.items [] [] one.0 one.1

module _ {E S K : Type 0} (m : Model E S K) (scratch epoch n : ℕ) (code seeds blinds reply : List ℕ) (outlet : ℕ) where
  abbrev written : E × Answers → Result (List ℕ) BatchFault
  written known = walked m (token_made m) known.1.epoch (key_id m known.0) 0 known.1.count seeds blinds known.1.items []

  abbrev confirming : E × Answers → Result (List ℕ) BatchFault
  confirming known = then (confirmed m known.0 (key_id m known.0) seeds blinds known.1) (λ _. written known)

  -- the scratch is tested first, and its length then tells no more
  pub too_short : scratch < 1024 → finish_answer m scratch epoch n code seeds blinds reply outlet ≡ Err (Wire ShortScratch)
  unfolding finish_answer finish_vetted
  too_short short = rw (lt-ltb scratch 1024 short) refl

  pub enough : 1024 ≤ scratch → finish_vetted m scratch epoch n code seeds blinds reply outlet ≡ finish_vetted m 1024 epoch n code seeds blinds reply outlet
  unfolding finish_vetted
  enough room = rw (le-ltb scratch 1024 room) refl

  pub vetting_stops : (f : BatchFault) → finish_vetted m scratch epoch n code seeds blinds reply outlet ≡ Err f →
      finish_answer m scratch epoch n code seeds blinds reply outlet ≡ Err f
  unfolding finish_answer
  vetting_stops f e = ap (λ r. then r confirming) e

  module _ (known : E × Answers) (vets : finish_vetted m scratch epoch n code seeds blinds reply outlet ≡ Ok known) (id : List ℕ) (is : id ≡ key_id m known.0) where
    confirms : finish_answer m scratch epoch n code seeds blinds reply outlet ≡
        then (confirmed m known.0 id seeds blinds known.1) (λ _. walked m (token_made m) known.1.epoch id 0 known.1.count seeds blinds known.1.items [])
    unfolding finish_answer
    confirms =
        ap (λ r. then r confirming) vets
        ∙ ap (λ (x : List ℕ). then (confirmed m known.0 x seeds blinds known.1) (λ _. walked m (token_made m) known.1.epoch x 0 known.1.count seeds blinds known.1.items []))
        (sym is)

    pub confirming_stops : (f : BatchFault) → Err f ≡ confirmed m known.0 id seeds blinds known.1 → finish_answer m scratch epoch n code seeds blinds reply outlet ≡ Err f
    confirming_stops f e =
        confirms ∙ ap (λ r. then r (λ _. walked m (token_made m) known.1.epoch id 0 known.1.count seeds blinds known.1.items [])) (sym e)

    module _ (passes : Ok tt ≡ confirmed m known.0 id seeds blinds known.1) where
      pub all_done : (tokens : List ℕ) → walked m (token_made m) known.1.epoch id 0 known.1.count seeds blinds known.1.items [] ≡ Ok tokens →
          finish_answer m scratch epoch n code seeds blinds reply outlet ≡ Ok tokens
      all_done tokens e =
          confirms ∙ ap (λ r. then r (λ _. walked m (token_made m) known.1.epoch id 0 known.1.count seeds blinds known.1.items [])) (sym passes) ∙ e

      pub no_late_fault : (f : BatchFault) → walked m (token_made m) known.1.epoch id 0 known.1.count seeds blinds known.1.items [] ≡ Err f → ⊥
      no_late_fault f e = let come = tokens_come m known.0 id seeds blinds known.1 (sym passes) in ok_err (sym come.1 ∙ e)
