-- What `issue` answers, from what its steps answered.
use Rattle.std.proofs.Common.{◌≡◌, ℕ, ◌*◌, ◌≤◌, List, [], length, Ok, Err, Option, Result, sym, refl, ap, ◌∙◌}
use Rattle.faults.specs.declared.BatchFault.{BatchFault}
use Rattle.faults.specs.declared.StationFault.{StationFault}
use Rattle.scalar.specs.Scalars.{scalar_code}
use Rattle.group.specs.Model.{Model}
use Rattle.voprf.specs.Blinding.{public_key}
use Rattle.voprf.specs.Proving.{proved}
use Rattle.messages.specs.Messages.{Answers, reply_bytes, reply_length, writes_reply}
use Rattle.messages.proofs.Reading.{counted}
use Rattle.messages.proofs.Writing.{reply_fits}
use Rattle.token.specs.Tokens.{then}
use Rattle.station.specs.Answers.{of_batch, counted as counted_above, outlet_after}
use Rattle.station.specs.Issuing.{Order, accepted, answer_codes, replied, reply_counted, reply_laid, issue_answer}

-- a reply of 1 to 16 codes and two scalars that fits its outlet is written
pub writes : {E S K : Type 0} (m : Model E S K) (a : Answers) (room : ℕ) → 1 ≤ a.count → a.count ≤ 16 → length a.items ≡ a.count * m.element_width →
    length a.challenge ≡ m.scalars.width → length a.response ≡ m.scalars.width → reply_length m a.count ≤ room →
    writes_reply m a room ≡ Ok (reply_length m a.count)
writes m a room some few whole c s fits = reply_fits m a room (counted a.count some few) whole c s fits

module _ {E S K : Type 0} (m : Model E S K) (o : Order K) where
  -- the answers of an order, of their codes and their proof
  abbrev pub answers_by : List ℕ → S × S → Answers
  answers_by got p = record {
    epoch = o.batch.epoch;
    count = o.batch.count;
    items = got;
    challenge = scalar_code m.scalars p.0;
    response = scalar_code m.scalars p.1;
  }

  proven : List ℕ → Result (List ℕ) BatchFault
  proven got = then (proved m o.key o.nonce (public_key m o.key) o.batch.items got) (λ p. Ok (reply_bytes m (answers_by got p)))

  pub items_stop : (f : BatchFault) → answer_codes m o.key 0 o.batch.count o.batch.items [] ≡ Err f → replied m o ≡ Err f
  unfolding replied proven
  items_stop f e = ap (λ r. then r proven) e

  pub proof_stops : (got : List ℕ) (f : BatchFault) → answer_codes m o.key 0 o.batch.count o.batch.items [] ≡ Ok got →
      Err f ≡ proved m o.key o.nonce (public_key m o.key) o.batch.items got → replied m o ≡ Err f
  unfolding replied proven
  proof_stops got f e s = ap (λ r. then r proven) e ∙ ap (λ r. then r (λ p. Ok (reply_bytes m (answers_by got p)))) (sym s)

  pub replies : (got : List ℕ) (p : S × S) → answer_codes m o.key 0 o.batch.count o.batch.items [] ≡ Ok got →
      Ok p ≡ proved m o.key o.nonce (public_key m o.key) o.batch.items got → replied m o ≡ Ok (reply_bytes m (answers_by got p))
  unfolding replied proven
  replies got p e s = ap (λ r. then r proven) e ∙ ap (λ r. then r (λ p. Ok (reply_bytes m (answers_by got p)))) (sym s)

module _ {E S K : Type 0} (m : Model E S K) (scratch : ℕ) (key : ℕ → Option K) (request nonce : List ℕ) (outlet : ℕ) where
  pub issue_stops : (f : StationFault) → Err f ≡ accepted m scratch key request nonce outlet → issue_answer m scratch key request nonce outlet ≡ Err f
  unfolding issue_answer
  issue_stops f e = ap (λ r. then r (λ o. of_batch (replied m o))) (sym e)

  pub issue_goes : (o : Order K) → Ok o ≡ accepted m scratch key request nonce outlet → issue_answer m scratch key request nonce outlet ≡ of_batch (replied m o)
  unfolding issue_answer
  issue_goes o e = ap (λ r. then r (λ o. of_batch (replied m o))) (sym e)

-- a reply's length, and what it leaves in an outlet, are the same above and below
pub same_count : (r : Result (List ℕ) BatchFault) → of_batch (reply_counted r) ≡ counted_above (of_batch r)
same_count (Ok bytes) = refl
same_count (Err f) = refl

pub same_outlet : (r : Result (List ℕ) BatchFault) (old : List ℕ) → reply_laid r old ≡ outlet_after (of_batch r) old
same_outlet (Ok bytes) old = refl
same_outlet (Err f) old = refl
