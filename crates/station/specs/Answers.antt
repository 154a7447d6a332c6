-- What the station's calls share: faults from below, what an outlet holds, and what `open` answers.
use Rattle.std.specs.Prelude.{ℕ, not, List, [], ◌∷◌, length, Ok, Err, Result, ◌==◌, nat_lt}
use Rattle.faults.specs.declared.WireFault.{WireFault}
use Rattle.faults.specs.declared.WireFault.TheVariants.{ShortScratch, WrongLength, ShortOutlet}
use Rattle.faults.specs.declared.RingFault.{RingFault}
use Rattle.faults.specs.declared.GroupFault.{GroupFault}
use Rattle.faults.specs.declared.BatchFault.{BatchFault}
use Rattle.faults.specs.declared.StationFault.{StationFault}
use Rattle.faults.specs.declared.StationFault.TheVariants.{Wire, Ring as OfRing, Group, Batch}
use Rattle.group.specs.Model.{Model}
use Rattle.voprf.specs.Blinding.{public_key}
use Rattle.messages.specs.Answers.{ruled, over}
use Rattle.token.specs.Tokens.{then, key_of}
use Rattle.ring.specs.Places.{Place, taken}

-- a fault from below, kept whole inside the station's
abbrev pub of_wire : {T : Type 0} → Result T WireFault → Result T StationFault
of_wire (Ok x) = Ok x
of_wire (Err f) = Err (Wire f)

abbrev pub of_ring : {T : Type 0} → Result T RingFault → Result T StationFault
of_ring (Ok x) = Ok x
of_ring (Err f) = Err (OfRing f)

abbrev pub of_group : {T : Type 0} → Result T GroupFault → Result T StationFault
of_group (Ok x) = Ok x
of_group (Err f) = Err (Group f)

abbrev pub of_batch : {T : Type 0} → Result T BatchFault → Result T StationFault
of_batch (Ok x) = Ok x
of_batch (Err f) = Err (Batch f)

-- what a call that writes bytes answers: how many they are
abbrev pub counted : Result (List ℕ) StationFault → Result ℕ StationFault
counted (Ok bytes) = Ok (length bytes)
counted (Err f) = Err f

-- what an outlet holds after an answer: the bytes at its front, or all as it was
abbrev pub outlet_after : Result (List ℕ) StationFault → List ℕ → List ℕ
outlet_after (Ok bytes) old = over bytes old
outlet_after (Err f) old = old

module _ {E S K : Type 0} (m : Model E S K) where
  -- the key that an opening brings, or the first fault: scratch, length and value of the key, the ring, the outlet
  unfoldable pub opening : ℕ → Result (Unit {0}) RingFault → List ℕ → ℕ → Result K StationFault
  opening scratch admission code outlet =
      ruled ((nat_lt scratch 1024, Wire ShortScratch) ∷ (not (length code == m.scalars.width), Wire WrongLength) ∷ [])
      (then (of_group (key_of m code)) (λ k.
      then (of_ring admission) (λ _.
      ruled ((nat_lt outlet m.element_width, Wire ShortOutlet) ∷ []) (Ok k))))

  -- what `open` writes: the code of the public key
  abbrev pub published : Result K StationFault → Result (List ℕ) StationFault
  published (Ok k) = Ok (m.code (public_key m k))
  published (Err f) = Err f

-- the places and the highest epoch after an opening; after a refusal as they were
abbrev pub places_after : {K : Type 0} → Result K StationFault → ℕ → List (Place K) → List (Place K)
places_after (Ok k) epoch ps = taken (record { number = epoch; key = k }) ps
places_after (Err f) epoch ps = ps

abbrev pub latest_after : {K : Type 0} → Result K StationFault → ℕ → ℕ → ℕ
latest_after (Ok k) epoch latest = epoch
latest_after (Err f) epoch latest = latest
