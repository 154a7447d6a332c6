-- What `blind` answers.
use Rattle.std.specs.Prelude.{◌≡◌, ℕ, ◌*◌, ◌/◌, ◌%◌, ◌≤◌, not, List, [], ◌∷◌, length, Ok, Err, Result, ◌==◌, nat_lt}
use Rattle.faults.specs.declared.WireFault.TheVariants.{ShortScratch, WrongLength, WrongCount, ShortOutlet}
use Rattle.faults.specs.declared.RingFault.TheVariants.{NotOpen}
use Rattle.faults.specs.declared.BatchFault.{BatchFault}
use Rattle.faults.specs.declared.BatchFault.TheVariants.{Wire, Ring}
use Rattle.group.specs.Model.{Model}
use Rattle.hashing.specs.Hashing.{key_id}
use Rattle.messages.specs.Answers.{ruled}
use Rattle.messages.specs.Messages.{request_bytes, request_length}
use Rattle.token.specs.Tokens.{then, of_group, element_of}
use Rattle.client.specs.declared.pending.Pending.{Pending}
use Rattle.client.specs.Batches.{sent_code, walked}

module _ {E S K : Type 0} (m : Model E S K) where
  -- the checks before any item, in their order: the public key and the number of items, or the first fault
  unfoldable pub vetted : ℕ → ℕ → List ℕ → List ℕ → List ℕ → ℕ → Result (E × ℕ) BatchFault
  vetted scratch epoch code seeds blinds outlet =
      let n = length seeds / 64 in
      ruled
      ((nat_lt scratch 1024, Wire ShortScratch)
      ∷ ((epoch == 0), Ring NotOpen)
      ∷ (not (length code == m.element_width), Wire WrongLength)
      ∷ (not (length seeds % 64 == 0), Wire WrongLength)
      ∷ ((n == 0), Wire WrongCount)
      ∷ (nat_lt 16 n, Wire WrongCount)
      ∷ (not (length blinds == n * m.scalars.width), Wire WrongLength)
      ∷ [])
      (then (of_group (element_of m code)) (λ pk.
      ruled ((nat_lt outlet (request_length m n), Wire ShortOutlet) ∷ []) (Ok (pk, n))))

  -- what is known of the lengths once these checks have passed
  pub record Vetted (scratch : ℕ) (seeds blinds : List ℕ) (outlet n : ℕ) : Type 0 where
    pub room : 1024 ≤ scratch
    pub some : 1 ≤ n
    pub few : n ≤ 16
    pub counted : n ≡ length seeds / 64
    pub seeded : length seeds ≡ 64 * n
    pub blinded_each : length blinds ≡ n * m.scalars.width
    pub fits : request_length m n ≤ outlet

  -- the request, or the first fault in the order of the checks
  unfoldable pub blind_answer : ℕ → ℕ → List ℕ → List ℕ → List ℕ → ℕ → Result (List ℕ) BatchFault
  blind_answer scratch epoch code seeds blinds outlet =
      then (vetted scratch epoch code seeds blinds outlet) (λ known.
      then (walked m (sent_code m) epoch (key_id m known.0) 0 known.1 seeds blinds [] []) (λ codes.
      Ok (request_bytes m (record { epoch = epoch; count = known.1; items = codes }))))

-- what the call gives: a pending batch of the epoch and of n items where the request is written
abbrev pub begun : ℕ → ℕ → Result (List ℕ) BatchFault → Result (ℕ × ℕ) BatchFault
begun epoch n (Ok bytes) = Ok (epoch, n)
begun epoch n (Err f) = Err f

-- what a pending batch keeps, its epoch and how many items it has
abbrev pub batch_seen : Result Pending BatchFault → Result (ℕ × ℕ) BatchFault
batch_seen (Ok p) = Ok (p.epoch, p.count)
batch_seen (Err f) = Err f
