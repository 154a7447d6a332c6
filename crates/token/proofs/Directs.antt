-- The authenticator of an input by a key: a scratch that is long enough decides nothing.
use Rattle.std.proofs.Common.{◌≡◌, ℕ, ◌<◌, ◌≤◌, Bool, true, false, cond, not, eqb, List, [], ◌∷◌, length, Ok, Err, Result, ap, ◌∙◌}
use Rattle.std.proofs.lemmas.Bool.{lt-ltb, le-ltb}
use Rattle.faults.specs.declared.WireFault.TheVariants.{ShortScratch, WrongLength}
use Rattle.faults.specs.declared.GroupFault.TheVariants.{NullInput}
use Rattle.faults.specs.declared.BatchFault.{BatchFault}
use Rattle.faults.specs.declared.BatchFault.TheVariants.{Wire, Group}
use Rattle.group.specs.Model.{Model}
use Rattle.hashing.specs.Hashing.{hash_to_group}
use Rattle.voprf.specs.Blinding.{direct}
use Rattle.messages.specs.Answers.{ruled}
use Rattle.messages.proofs.Ruled.{passed, stopped, stops, equal_passes, unequal_stops}
use Rattle.faults.specs.declared.GroupFault.{GroupFault}
use Rattle.token.specs.Tokens.{then, is_null, key_of, of_group, direct_answer}

module _ {E S K : Type 0} (m : Model E S K) (code input : List ℕ) where
  -- what is answered under a key
  abbrev under : K → Result (List ℕ) BatchFault
  under k = ruled ((is_null m (hash_to_group m input), Group NullInput) ∷ []) (Ok (direct m k input))

  abbrev pub by_key : Result (List ℕ) BatchFault
  by_key = then (of_group (key_of m code)) under

  -- what is answered where the scratch is long enough
  abbrev pub by_lengths : Result (List ℕ) BatchFault
  by_lengths = ruled ((not (eqb (length code) m.scalars.width), Wire WrongLength) ∷ (not (eqb (length input) 100), Wire WrongLength) ∷ []) by_key

  pub too_short : (room : ℕ) → room < 1024 → direct_answer m room code input ≡ Err (Wire ShortScratch)
  unfolding direct_answer
  too_short room h = ap (λ (b : Bool). cond b (Err (Wire ShortScratch)) by_lengths) (lt-ltb room 1024 h)

  pub enough : (room : ℕ) → 1024 ≤ room → direct_answer m room code input ≡ by_lengths
  unfolding direct_answer
  enough room h = ap (λ (b : Bool). cond b (Err (Wire ShortScratch)) by_lengths) (le-ltb room 1024 h)

  pub wrong_key : (length code ≡ m.scalars.width → ⊥) → by_lengths ≡ Err (Wire WrongLength)
  wrong_key h =
      stopped (not (eqb (length code) m.scalars.width), Wire WrongLength) ((not (eqb (length input) 100), Wire WrongLength) ∷ []) by_key
      (unequal_stops (length code) m.scalars.width h)

  pub wrong_input : length code ≡ m.scalars.width → (length input ≡ 100 → ⊥) → by_lengths ≡ Err (Wire WrongLength)
  wrong_input l h =
      stops ((not (eqb (length code) m.scalars.width), Wire WrongLength) ∷ []) (not (eqb (length input) 100), Wire WrongLength) [] by_key
      (equal_passes (length code) m.scalars.width l, tt) (unequal_stops (length input) 100 h)

  pub fitting : length code ≡ m.scalars.width → length input ≡ 100 → by_lengths ≡ by_key
  fitting l h =
      passed ((not (eqb (length code) m.scalars.width), Wire WrongLength) ∷ (not (eqb (length input) 100), Wire WrongLength) ∷ []) by_key
      (equal_passes (length code) m.scalars.width l, (equal_passes (length input) 100 h, tt))

  pub no_key : (f : GroupFault) → key_of m code ≡ Err f → by_key ≡ Err (Group f)
  no_key f e = ap (λ r. then (of_group r) under) e

  pub null_input : (k : K) → key_of m code ≡ Ok k → is_null m (hash_to_group m input) ≡ true → by_key ≡ Err (Group NullInput)
  null_input k e n = ap (λ r. then (of_group r) under) e ∙ stopped (is_null m (hash_to_group m input), Group NullInput) [] (Ok (direct m k input)) n

  pub made : (k : K) → key_of m code ≡ Ok k → is_null m (hash_to_group m input) ≡ false → by_key ≡ Ok (direct m k input)
  made k e n = ap (λ r. then (of_group r) under) e ∙ passed ((is_null m (hash_to_group m input), Group NullInput) ∷ []) (Ok (direct m k input)) (n, tt)
