-- What `issue` answers. `key` tells the key of an epoch that is open.
use Rattle.std.specs.Prelude.{◌≡◌, ℕ, zero, suc, ◌+◌, ◌*◌, ◌≤◌, not, List, [], ◌∷◌, ◌++◌, length, take, drop, Ok, Err, Option, Result, ◌==◌, nat_lt}
use Rattle.std.specs.Option.{ok_or}
use Rattle.faults.specs.declared.WireFault.TheVariants.{ShortScratch, WrongLength, ShortOutlet}
use Rattle.faults.specs.declared.RingFault.TheVariants.{NotOpen}
use Rattle.faults.specs.declared.GroupFault.{GroupFault}
use Rattle.faults.specs.declared.BatchFault.{BatchFault}
use Rattle.faults.specs.declared.BatchFault.TheVariants.{Item}
use Rattle.faults.specs.declared.StationFault.{StationFault}
use Rattle.faults.specs.declared.StationFault.TheVariants.{Wire}
use Rattle.scalar.specs.Scalars.{scalar_code}
use Rattle.group.specs.Model.{Model}
use Rattle.voprf.specs.Blinding.{public_key, answered}
use Rattle.voprf.specs.Proving.{proved}
use Rattle.messages.specs.Answers.{ruled, over}
use Rattle.messages.specs.Messages.{Batch, read_request, reply_bytes, reply_length}
use Rattle.messages.specs.Views.{batch}
use Rattle.messages.specs.declared.Request.{Request}
use Rattle.token.specs.Tokens.{then, element_of, key_of}
use Rattle.station.specs.Answers.{of_wire, of_ring, of_group, of_batch}

-- a fault of the group becomes the batch's, with the item's number, which counts from 1
abbrev pub of_item : {T : Type 0} → ℕ → Result T GroupFault → Result T BatchFault
of_item i (Ok x) = Ok x
of_item i (Err f) = Err (Item (i + 1) f)

-- an order that may be answered: the request's batch, the epoch's key, the proof's nonce
pub record Order (K : Type 0) : Type 0 where
  pub batch : Batch
  pub key : K
  pub nonce : K

-- what the code holds of an order, behind its reference
abbrev pub order : {K : Type 0} → Request × K × K → Order K
order x = record { batch = batch x.0; key = x.1; nonce = x.2 }

abbrev pub order_seen : {K : Type 0} → Result (Request × K × K) StationFault → Result (Order K) StationFault
order_seen (Ok x) = Ok (order x)
order_seen (Err f) = Err f

-- how long a reply is, and what it leaves in an outlet
abbrev pub reply_counted : Result (List ℕ) BatchFault → Result ℕ BatchFault
reply_counted (Ok bytes) = Ok (length bytes)
reply_counted (Err f) = Err f

abbrev pub reply_laid : Result (List ℕ) BatchFault → List ℕ → List ℕ
reply_laid (Ok bytes) old = over bytes old
reply_laid (Err f) old = old

-- what is known of an order that may be answered
pub record Sound {E S K : Type 0} (m : Model E S K) (scratch outlet : ℕ) (b : Batch) : Type 0 where
  pub room : 1024 ≤ scratch
  pub some : 1 ≤ b.count
  pub few : b.count ≤ 16
  pub whole : length b.items ≡ b.count * m.element_width
  pub fits : reply_length m b.count ≤ outlet

module _ {E S K : Type 0} (m : Model E S K) where
  -- the checks before any item, in their order
  unfoldable pub accepted : ℕ → (ℕ → Option K) → List ℕ → List ℕ → ℕ → Result (Order K) StationFault
  accepted scratch key request nonce outlet =
      ruled ((nat_lt scratch 1024, Wire ShortScratch) ∷ [])
      (then (of_wire (read_request m request)) (λ b.
      then (of_ring (ok_or (key b.epoch) NotOpen)) (λ k.
      ruled ((not (length nonce == m.scalars.width), Wire WrongLength) ∷ [])
      (then (of_group (key_of m nonce)) (λ u.
      ruled ((nat_lt outlet (reply_length m b.count), Wire ShortOutlet) ∷ []) (Ok (record { batch = b; key = k; nonce = u })))))))

  -- the codes of the answers to the items from place i on, n of them, after those in front
  unfoldable pub answer_codes : K → ℕ → ℕ → List ℕ → List ℕ → Result (List ℕ) BatchFault
  answer_codes k i zero items front = Ok front
  answer_codes k i (suc n) items front =
      then (of_item i (element_of m (take m.element_width items))) (λ b.
      answer_codes k (i + 1) n (drop m.element_width items) (front ++ m.code (answered m k b)))

  -- the reply to an order, or the first item that is no element or the null
  unfoldable pub replied : Order K → Result (List ℕ) BatchFault
  replied o =
      let b = o.batch in
      then (answer_codes o.key 0 b.count b.items []) (λ got.
      then (proved m o.key o.nonce (public_key m o.key) b.items got) (λ p.
      Ok (reply_bytes m (record {
        epoch = b.epoch;
        count = b.count;
        items = got;
        challenge = scalar_code m.scalars p.0;
        response = scalar_code m.scalars p.1;
      }))))

  -- the reply, or the first fault in the order of the checks
  unfoldable pub issue_answer : ℕ → (ℕ → Option K) → List ℕ → List ℕ → ℕ → Result (List ℕ) StationFault
  issue_answer scratch key request nonce outlet = then (accepted scratch key request nonce outlet) (λ o. of_batch (replied o))
