-- Which epochs are open, each with its key: four places, and the highest epoch that was ever opened.
use Rattle.std.specs.Prelude.{ℕ, ◌+◌, Bool, true, false, cond, List, [], ◌∷◌, Some, None, Ok, Err, Option, Result, ◌==◌, nat_le}
use Rattle.faults.specs.declared.RingFault.{RingFault}
use Rattle.faults.specs.declared.RingFault.TheVariants.{NotAbove, AllOpen}
use Rattle.ring.specs.declared.Epoch.{Epoch}
use Rattle.ring.specs.declared.Ring.{Ring}

-- a place has an open epoch, or is free
abbrev pub Place : Type 0 → Type 0
Place K = Option (Epoch K)

abbrev pub places : {K : Type 0} → Ring K → List (Place K)
places r = r.first ∷ r.second ∷ r.third ∷ r.fourth ∷ []

-- the key that a place has for an epoch
abbrev pub held : {K : Type 0} → Place K → ℕ → Option K
held None e = None
held (Some x) e = cond (x.number == e) (Some x.key) None

abbrev pub or_else : {K : Type 0} → Option K → Option K → Option K
or_else None b = b
or_else (Some a) b = Some a

-- the key of an open epoch
abbrev pub key_in : {K : Type 0} → List (Place K) → ℕ → Option K
key_in [] e = None
key_in (p ∷ ps) e = or_else (held p e) (key_in ps e)

-- a place is free once its epoch is closed
abbrev pub freed : {K : Type 0} → ℕ → Place K → Place K
freed e None = None
freed e (Some x) = cond (x.number == e) None (Some x)

abbrev pub closed : {K : Type 0} → ℕ → List (Place K) → List (Place K)
closed e [] = []
closed e (p ∷ ps) = freed e p ∷ closed e ps

-- the first free place takes the epoch
abbrev pub taken : {K : Type 0} → Epoch K → List (Place K) → List (Place K)
taken x [] = []
taken x (None ∷ ps) = Some x ∷ ps
taken x (Some y ∷ ps) = Some y ∷ taken x ps

abbrev pub full : {K : Type 0} → List (Place K) → Bool
full [] = true
full (None ∷ ps) = false
full (Some y ∷ ps) = full ps

-- how many epochs are open
abbrev pub open_count : {K : Type 0} → List (Place K) → ℕ
open_count [] = 0
open_count (None ∷ ps) = open_count ps
open_count (Some y ∷ ps) = 1 + open_count ps

-- an epoch that may be opened is above all that were opened before, so not 0, and a place is free
abbrev pub admits : {K : Type 0} → Ring K → ℕ → Result (Unit {0}) RingFault
admits r e = cond (nat_le e r.latest) (Err NotAbove) (cond (full (places r)) (Err AllOpen) (Ok tt))

-- the places and the highest epoch after an opening: as they were where it was refused
abbrev pub places_after : {K : Type 0} → Result (Unit {0}) RingFault → Epoch K → List (Place K) → List (Place K)
places_after (Ok u) x ps = taken x ps
places_after (Err f) x ps = ps

abbrev pub latest_after : Result (Unit {0}) RingFault → ℕ → ℕ → ℕ
latest_after (Ok u) e latest = e
latest_after (Err f) e latest = latest
