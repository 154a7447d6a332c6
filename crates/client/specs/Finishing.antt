-- What `finish` answers.
use Rattle.std.specs.Prelude.{◌≡◌, ℕ, ◌*◌, ◌≤◌, not, List, [], ◌∷◌, length, drop, Ok, Err, Result, ◌==◌, nat_lt}
use Rattle.std.specs.Option.{ok_or}
use Rattle.faults.specs.declared.WireFault.{WireFault}
use Rattle.faults.specs.declared.WireFault.TheVariants.{ShortScratch, WrongLength, WrongType, WrongCount, ShortOutlet}
use Rattle.faults.specs.declared.RingFault.TheVariants.{NotOpen}
use Rattle.faults.specs.declared.GroupFault.{GroupFault}
use Rattle.faults.specs.declared.GroupFault.TheVariants.{NoScalar}
use Rattle.faults.specs.declared.BatchFault.{BatchFault}
use Rattle.faults.specs.declared.BatchFault.TheVariants.{Wire, Ring}
use Rattle.scalar.specs.Scalars.{scalar_of}
use Rattle.group.specs.Model.{Model}
use Rattle.hashing.specs.Hashing.{authenticator, key_id}
use Rattle.voprf.specs.Blinding.{unblinded}
use Rattle.voprf.specs.Proving.{checked}
use Rattle.messages.specs.Answers.{ruled}
use Rattle.messages.specs.Messages.{Answers, kind_in, epoch_in, count_in, split_reply, token_bytes}
use Rattle.messages.specs.Views.{answers}
use Rattle.messages.specs.declared.Reply.{Reply}
use Rattle.token.specs.Tokens.{then, of_group, element_of, key_of}
use Rattle.client.specs.declared.pending.Pending.{Pending}
use Rattle.client.specs.declared.finishing.Unfinished.{Unfinished}
use Rattle.client.specs.Batches.{sent, walked}

-- a fault of the wire, kept whole inside the batch's
abbrev pub of_wire : {T : Type 0} → Result T WireFault → Result T BatchFault
of_wire (Ok x) = Ok x
of_wire (Err f) = Err (Wire f)

module _ {E S K : Type 0} (m : Model E S K) where
  -- what was sent for an item, where its answer is an element that is not the null
  unfoldable pub sent_again : List ℕ → List ℕ → List ℕ → Result E GroupFault
  sent_again input blind got = then (sent m input blind) (λ b. then (element_of m got) (λ _. Ok b))

  -- the authenticator of an item: of its input and of its answer, unblinded
  unfoldable pub finalized : List ℕ → List ℕ → List ℕ → Result (List ℕ) GroupFault
  finalized input blind got = then (key_of m blind) (λ r. then (element_of m got) (λ e. Ok (authenticator m input (unblinded m r e))))

  -- the bytes of what was sent for an item
  unfoldable pub code_again : List ℕ → List ℕ → List ℕ → Result (List ℕ) GroupFault
  code_again input blind got = then (sent_again input blind got) (λ b. Ok (m.code b))

  -- the token of an item
  unfoldable pub token_made : List ℕ → List ℕ → List ℕ → Result (List ℕ) GroupFault
  token_made input blind got = then (finalized input blind got) (λ a. Ok (token_bytes input a))

  -- a reply to a batch of n items: its length, then its type, its epoch and its n must fit
  unfoldable pub reply_parts : ℕ → ℕ → List ℕ → Result Answers BatchFault
  reply_parts epoch n reply =
      then (of_wire (split_reply m n (drop 5 reply))) (λ parts.
      ruled
      ((not (kind_in reply == m.kind), Wire WrongType)
      ∷ (not (epoch_in reply == epoch), Ring NotOpen)
      ∷ (not (count_in reply == n), Wire WrongCount)
      ∷ [])
      (Ok record { epoch = epoch; count = n; items = parts.0; challenge = parts.1; response = parts.2 }))

  -- the checks before any item, in their order: the public key and the reply, or the first fault
  unfoldable pub finish_vetted : ℕ → ℕ → ℕ → List ℕ → List ℕ → List ℕ → List ℕ → ℕ → Result (E × Answers) BatchFault
  finish_vetted scratch epoch n code seeds blinds reply outlet =
      ruled
      ((nat_lt scratch 1024, Wire ShortScratch)
      ∷ (not (length code == m.element_width), Wire WrongLength)
      ∷ (not (length seeds == 64 * n), Wire WrongLength)
      ∷ (not (length blinds == n * m.scalars.width), Wire WrongLength)
      ∷ [])
      (then (reply_parts epoch n reply) (λ got.
      then (of_group (element_of m code)) (λ pk.
      ruled ((nat_lt outlet (132 * n), Wire ShortOutlet) ∷ []) (Ok (pk, got)))))

  -- what is known of the lengths once these checks have passed
  pub record Finishable (scratch epoch n : ℕ) (seeds blinds : List ℕ) (got : Answers) (outlet : ℕ) : Type 0 where
    pub room : 1024 ≤ scratch
    pub timed : got.epoch ≡ epoch
    pub counted : got.count ≡ n
    pub seeded : length seeds ≡ 64 * n
    pub blinded_each : length blinds ≡ n * m.scalars.width
    pub answered_each : length got.items ≡ n * m.element_width
    pub fits : 132 * n ≤ outlet

  -- one key answered every item: the items pass one by one, c and s are scalars, and the proof passes its check
  unfoldable pub confirmed : E → List ℕ → List ℕ → List ℕ → Answers → Result (Unit {0}) BatchFault
  confirmed pk id seeds blinds got =
      then (walked m code_again got.epoch id 0 got.count seeds blinds got.items []) (λ sent-codes.
      then (of_group (ok_or (scalar_of m.scalars got.challenge) NoScalar)) (λ c.
      then (of_group (ok_or (scalar_of m.scalars got.response) NoScalar)) (λ s.
      checked m pk sent-codes got.items (c, s))))

  -- the tokens in a row, or the first fault in the order of the checks
  unfoldable pub finish_answer : ℕ → ℕ → ℕ → List ℕ → List ℕ → List ℕ → List ℕ → ℕ → Result (List ℕ) BatchFault
  finish_answer scratch epoch n code seeds blinds reply outlet =
      then (finish_vetted scratch epoch n code seeds blinds reply outlet) (λ known.
      then (confirmed known.0 (key_id m known.0) seeds blinds known.1) (λ _.
      walked m token_made known.1.epoch (key_id m known.0) 0 known.1.count seeds blinds known.1.items []))

-- what the readers of a reply hold, behind their references
abbrev pub answers_seen : Result Reply BatchFault → Result Answers BatchFault
answers_seen (Ok q) = Ok (answers q)
answers_seen (Err f) = Err f

abbrev pub known_seen : {E : Type 0} → Result (E × Reply) BatchFault → Result (E × Answers) BatchFault
known_seen (Ok p) = Ok (p.0, answers p.1)
known_seen (Err f) = Err f

-- whether a batch is ended
abbrev pub settled : Result (List ℕ) BatchFault → Result (Unit {0}) BatchFault
settled (Ok tokens) = Ok tt
settled (Err f) = Err f

-- what the call gives: how many tokens it wrote, or the batch, which is still pending, with the fault
abbrev pub finished : Pending → Result (List ℕ) BatchFault → Result ℕ Unfinished
finished p (Ok tokens) = Ok p.count
finished p (Err f) = Err (record { pending = p; fault = f })
