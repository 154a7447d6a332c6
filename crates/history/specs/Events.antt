-- What happened to a station: each call with what it told. A call is accepted where it tells no fault.
use Rattle.std.specs.Prelude.{ℕ, List, [], ◌∷◌, take, Ok, Err, Result}
use Rattle.faults.specs.declared.StationFault.{StationFault}
use Rattle.history.specs.declared.calls.Call.{Call}
use Rattle.history.specs.declared.calls.Call.TheVariants.{Count, Open, Close, Issue, Redeem}
use Rattle.history.specs.declared.calls.Written.{Written}
use Rattle.history.specs.declared.calls.Output.{Output}
use Rattle.history.specs.declared.calls.Output.TheVariants.{Done, Number, Bytes}

-- what a call told: that it was done, a number, the bytes that it wrote, or its fault
pub data Told : Type 0 where
  done : Told
  number : ℕ → Told
  bytes : List ℕ → Told
  refused : StationFault → Told

-- the bytes at the outlet's front
abbrev pub written : Written → List ℕ
written w = take w.len w.bytes

-- what a call gave, or its fault
abbrev pub Outcome : Type 0
Outcome = Result Output StationFault

abbrev pub told : Outcome → Told
told (Ok Done) = done
told (Ok (Number n)) = number n
told (Ok (Bytes w)) = bytes (written w)
told (Err f) = refused f

pub record Event : Type 0 where
  pub call : Call
  pub answer : Told

abbrev pub event : Call → Told → Event
event c o = record { call = c; answer = o }

-- the calls with their outcomes, in the order of the calls: as many as there are outcomes
abbrev pub events : List Call → List Outcome → List Event
events [] os = []
events (c ∷ cs) [] = []
events (c ∷ cs) (o ∷ os) = event c (told o) ∷ events cs os

-- what an accepted call did: an epoch was opened under a key, or closed; a request was answered by a reply; a
-- token was accepted
pub data Deed : Type 0 where
  opens : ℕ → List ℕ → Deed
  closes : ℕ → Deed
  issues : List ℕ → List ℕ → Deed
  accepts : List ℕ → Deed
  nothing : Deed

abbrev pub opening_did : ℕ → List ℕ → Told → Deed
opening_did epoch key done = nothing
opening_did epoch key (number n) = nothing
opening_did epoch key (bytes pk) = opens epoch key
opening_did epoch key (refused f) = nothing

abbrev pub closing_did : ℕ → Told → Deed
closing_did epoch done = nothing
closing_did epoch (number n) = closes epoch
closing_did epoch (bytes b) = nothing
closing_did epoch (refused f) = nothing

abbrev pub issuing_did : List ℕ → Told → Deed
issuing_did request done = nothing
issuing_did request (number n) = nothing
issuing_did request (bytes reply) = issues request reply
issuing_did request (refused f) = nothing

abbrev pub redeeming_did : List ℕ → Told → Deed
redeeming_did token done = accepts token
redeeming_did token (number n) = nothing
redeeming_did token (bytes b) = nothing
redeeming_did token (refused f) = nothing

abbrev pub deed : Call → Told → Deed
deed Count o = nothing
deed (Open scratch epoch key outlet) o = opening_did epoch key.now o
deed (Close epoch) o = closing_did epoch o
deed (Issue scratch request nonce outlet) o = issuing_did request.now o
deed (Redeem scratch token) o = redeeming_did token.now o

abbrev pub did : Event → Deed
did ev = deed ev.call ev.answer
