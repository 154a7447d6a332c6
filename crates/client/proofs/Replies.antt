-- What a reply is read as, from what its parts are.
use Rattle.std.proofs.Common.{◌≡◌, ℕ, ◌+◌, ◌*◌, ◌<◌, ◌≤◌, Bool, not, eqb, List, [], ◌∷◌, length, drop, Ok, Err, Result, sym, refl, ap, ◌∙◌, ⊎_elim, arith, length-drop}
use Rattle.std.proofs.lemmas.List.{length-take-le}
use Rattle.std.proofs.lemmas.Bool.{cases_lt}
use Rattle.faults.specs.declared.WireFault.{WireFault}
use Rattle.faults.specs.declared.WireFault.TheVariants.{WrongLength, WrongType, WrongCount}
use Rattle.faults.specs.declared.RingFault.TheVariants.{NotOpen}
use Rattle.faults.specs.declared.BatchFault.{BatchFault}
use Rattle.faults.specs.declared.BatchFault.TheVariants.{Wire, Ring}
use Rattle.group.specs.Model.{Model}
use Rattle.messages.specs.Answers.{ruled}
use Rattle.messages.specs.Messages.{Answers, kind_in, epoch_in, count_in, header_in, header_of, split_reply, reply_length, place}
use Rattle.messages.specs.declared.Header.{Header}
use Rattle.messages.proofs.Reading.{header_short, header_whole, header_read, split_wrong, split_check, split_in}
use Rattle.messages.proofs.Ruled.{passed, passes, stops, same_answer, equal_passes, unequal_stops, passed_equal}
use Rattle.token.specs.Tokens.{then}
use Rattle.client.specs.Finishing.{of_wire, reply_parts}

same_fault : (f d : WireFault) → ◌≡◌ {A = Result (Header × List ℕ) WireFault} (Err f) (Err d) → f ≡ d
same_fault f d e = cc

no_fault : (f : WireFault) (x : Header × List ℕ) → ◌≡◌ {A = Result (Header × List ℕ) WireFault} (Err f) (Ok x) → ⊥
no_fault f x e = let z : ◌≡◌ {A = ℕ} 0 1 = cc in omega arith

module _ {E S K : Type 0} (m : Model E S K) (epoch n : ℕ) (reply : List ℕ) where
  abbrev answers_in : List ℕ × List ℕ × List ℕ → Answers
  answers_in parts = record { epoch = epoch; count = n; items = parts.0; challenge = parts.1; response = parts.2 }

  abbrev type_check : Bool × BatchFault
  type_check = (not (eqb (kind_in reply) m.kind), Wire WrongType)

  abbrev epoch_check : Bool × BatchFault
  epoch_check = (not (eqb (epoch_in reply) epoch), Ring NotOpen)

  abbrev count_check : Bool × BatchFault
  count_check = (not (eqb (count_in reply) n), Wire WrongCount)

  abbrev fitting : List ℕ × List ℕ × List ℕ → Result Answers BatchFault
  fitting parts = ruled (type_check ∷ epoch_check ∷ count_check ∷ []) (Ok (answers_in parts))

  -- a reply without a whole front has not the length either
  pub reply_short : (f : WireFault) → header_of reply ≡ Err f → reply_parts m epoch n reply ≡ Err (Wire f)
  unfolding reply_parts
  reply_short f e =
      ⊎_elim
      (λ (l : length reply < 5).
      let some = m.scalars.narrow in
      let none = length-drop 5 reply in
      let wrong = split_wrong m n (drop 5 reply) (λ long. omega arith) in
      ap (λ r. then (of_wire r) fitting) wrong ∙ ap (λ (x : WireFault). Err (Wire x)) (same_fault WrongLength f (sym (header_short reply l) ∙ e)))
      (λ (l : 5 ≤ length reply). absurd (no_fault f (header_in reply, drop 5 reply) (sym e ∙ header_whole reply l)))
      (cases_lt (length reply) 5)

  module _ (h : Header) (rest : List ℕ) (front : header_of reply ≡ Ok (h, rest)) where
    split_is : reply_parts m epoch n reply ≡ then (of_wire (split_reply m n rest)) fitting
    unfolding reply_parts
    split_is = ap (λ (l : List ℕ). then (of_wire (split_reply m n l)) fitting) (sym (header_read reply h rest front).2)

    pub reply_mislong : (f : WireFault) → split_reply m n rest ≡ Err f → reply_parts m epoch n reply ≡ Err (Wire f)
    reply_mislong f e = split_is ∙ ap (λ r. then (of_wire r) fitting) e

    module _ (parts : List ℕ × List ℕ × List ℕ) (split : split_reply m n rest ≡ Ok parts) where
      fits : reply_parts m epoch n reply ≡ fitting parts
      fits = split_is ∙ ap (λ r. then (of_wire r) fitting) split

      kind_is : h.kind ≡ kind_in reply
      kind_is = ap (λ (x : Header). x.kind) (header_read reply h rest front).1

      epoch_is : h.epoch ≡ epoch_in reply
      epoch_is = ap (λ (x : Header). x.epoch) (header_read reply h rest front).1

      count_is : h.count ≡ count_in reply
      count_is = ap (λ (x : Header). x.count) (header_read reply h rest front).1

      pub other_kind : (h.kind ≡ m.kind → ⊥) → reply_parts m epoch n reply ≡ Err (Wire WrongType)
      other_kind no_way = fits ∙ stops [] type_check (epoch_check ∷ count_check ∷ []) (Ok (answers_in parts)) tt (unequal_stops (kind_in reply) m.kind (λ k. no_way (kind_is ∙ k)))

      pub other_epoch : h.kind ≡ m.kind → (h.epoch ≡ epoch → ⊥) → reply_parts m epoch n reply ≡ Err (Ring NotOpen)
      other_epoch k no_way =
          fits ∙ stops (type_check ∷ []) epoch_check (count_check ∷ []) (Ok (answers_in parts)) (equal_passes (kind_in reply) m.kind (sym kind_is ∙ k), tt)
          (unequal_stops (epoch_in reply) epoch (λ x. no_way (epoch_is ∙ x)))

      pub other_count : h.kind ≡ m.kind → h.epoch ≡ epoch → (h.count ≡ n → ⊥) → reply_parts m epoch n reply ≡ Err (Wire WrongCount)
      other_count k x no_way =
          fits ∙ stops (type_check ∷ epoch_check ∷ []) count_check [] (Ok (answers_in parts))
          (equal_passes (kind_in reply) m.kind (sym kind_is ∙ k), (equal_passes (epoch_in reply) epoch (sym epoch_is ∙ x), tt))
          (unequal_stops (count_in reply) n (λ y. no_way (count_is ∙ y)))

      pub reply_fits : h.kind ≡ m.kind → h.epoch ≡ epoch → h.count ≡ n → reply_parts m epoch n reply ≡ Ok (answers_in parts)
      reply_fits k x y =
          fits ∙ passed (type_check ∷ epoch_check ∷ count_check ∷ []) (Ok (answers_in parts))
          (equal_passes (kind_in reply) m.kind (sym kind_is ∙ k), (equal_passes (epoch_in reply) epoch (sym epoch_is ∙ x), (equal_passes (count_in reply) n (sym count_is ∙ y), tt)))

module _ {E S K : Type 0} (m : Model E S K) (n : ℕ) where
  -- the codes of a reply that is split are as long as n items'
  split_codes : (rest : List ℕ) (parts : List ℕ × List ℕ × List ℕ) → split_reply m n rest ≡ Ok parts → length parts.0 ≡ n * m.element_width
  unfolding split_reply reply_length place
  split_codes rest parts e =
      let got = passes (split_check m n rest ∷ []) (Ok (split_in m n rest)) parts e in
      let same = same_answer (split_in m n rest) parts got.1 in
      let long = passed_equal (5 + length rest) (reply_length m n) got.0.0 in
      sym (ap (λ x. length x.0) same) ∙ length-take-le (n * m.element_width) rest (omega arith)

  from_split : (epoch : ℕ) (reply : List ℕ) (r : Result (List ℕ × List ℕ × List ℕ) WireFault) (a : Answers) → then (of_wire r) (fitting m epoch n reply) ≡ Ok a →
      (parts : List ℕ × List ℕ × List ℕ) × (r ≡ Ok parts) × (fitting m epoch n reply parts ≡ Ok a)
  from_split epoch reply (Ok parts) a e = (parts, refl, e)
  from_split epoch reply (Err f) a e = absurd (let z : ◌≡◌ {A = ℕ} 0 1 = cc in omega arith)

  -- what is known of a reply that was read
  pub reply_known : (epoch : ℕ) (reply : List ℕ) (a : Answers) → reply_parts m epoch n reply ≡ Ok a →
      (a.epoch ≡ epoch) × (a.count ≡ n) × (length a.items ≡ n * m.element_width)
  unfolding reply_parts
  reply_known epoch reply a e =
      let got = from_split epoch reply (split_reply m n (drop 5 reply)) a e in
      let parts = got.0 in
      let fits = passes (type_check m epoch n reply ∷ epoch_check m epoch n reply ∷ count_check m epoch n reply ∷ []) (Ok (answers_in m epoch n reply parts)) a got.2 in
      let same = same_answer (answers_in m epoch n reply parts) a fits.1 in (
        sym (ap (λ (x : Answers). x.epoch) same),
        sym (ap (λ (x : Answers). x.count) same),
        sym (ap (λ (x : Answers). length x.items) same) ∙ split_codes (drop 5 reply) parts got.1,
      )
