-- What a line on a station comes to: what the last call of a lawful history told.
use Rattle.std.specs.Prelude.{◌≡◌, ℕ, ◌⊎◌, List, [], ◌∷◌, ◌++◌, map, reverse, length, Some, None, Ok, Err, vec_items, Option, Result}
use Rattle.std.specs.declared.alloc.AllocError.{AllocError}
use Rattle.chained.specs.Layout as chained
use Rattle.circ523.specs.Kind.{points}
use Rattle.commands.specs.declared.Kind.{Kind}
use Rattle.commands.specs.declared.Kind.TheVariants.{Res2039, Circ523}
use Rattle.faults.specs.Numbers.{wire_tells, station_tells}
use Rattle.faults.specs.declared.Refusal.{Refusal}
use Rattle.faults.specs.declared.WireFault.{WireFault}
use Rattle.history.specs.Events.{Outcome, Event, Told, events, told}
use Rattle.history.specs.Events as history
use Rattle.history.specs.Law.{Lawful}
use Rattle.history.specs.declared.calls.Call.{Call}
use Rattle.history.specs.declared.calls.Call.TheVariants.{Count, Open, Close, Issue, Redeem}
use Rattle.res2039.specs.Kind.{residues}
use Rattle.script.specs.Protocol.{Served, open_epoch, close_epoch, issue, redeem, count, served_of}
use Rattle.script.specs.Reports.{Said, done, number, bytes, outcome_of}
use Rattle.script.specs.declared.answers.Answer.{Answer}
use Rattle.script.specs.declared.errors.LineFault.{LineFault}
use Rattle.script.specs.declared.errors.LineFault.TheVariants.{Memory}
use Rattle.script.specs.declared.reading.Shelf.{Shelf}
use Rattle.script.specs.declared.reading.Shelf.TheVariants.{Chained, Tape}
use Rattle.tape.specs.Layout as tape
use Rattle.counter.specs.declared.ledger.Entry.{Entry}
use Rattle.counter.specs.declared.ledger.Ledger.{Ledger}
use Rattle.counter.specs.declared.orders.Buffers.{Buffers}

-- a call with the lengths of the scratch and of the outlet that it is lent, 0 where it is lent none
abbrev pub Lent : Type 0
Lent = ℕ × ℕ × Served

-- a call that a line asks for
abbrev pub lent : Buffers → Served → Lent
lent b (open_epoch e key) = (b.scratch, b.outlet, open_epoch e key)
lent b (close_epoch e) = (0, 0, close_epoch e)
lent b (issue request nonce) = (b.scratch, b.outlet, issue request nonce)
lent b (redeem token) = (b.scratch, 0, redeem token)
lent b count = (0, 0, count)

abbrev pub lent_of : Entry → Lent
lent_of e = lent e.buffers (served_of e.service)

-- the same of a call of a history
abbrev pub seen : Call → Lent
seen Count = (0, 0, count)
seen (Open scratch e key outlet) = (scratch, outlet, open_epoch e key.now)
seen (Close e) = (0, 0, close_epoch e)
seen (Issue scratch request nonce outlet) = (scratch, outlet, issue request.now nonce.now)
seen (Redeem scratch token) = (scratch, 0, redeem token.now)

-- what a call told, as a line says it
abbrev pub told_as : Told → Result Said Refusal
told_as history.done = Ok done
told_as (history.number n) = Ok (number n)
told_as (history.bytes b) = Ok (bytes b)
told_as (history.refused f) = Err (station_tells f)

-- it is said, or memory is wanting
abbrev pub Says : Told → Result (Result Answer Refusal) LineFault → Type 0
Says t (Ok a) = outcome_of a ≡ told_as t
Says t (Err f) = f ≡ Memory

-- the law, in the chosen group
abbrev pub LawfulIn : Kind → ℕ → List Event → Type 0
LawfulIn Res2039 places h = Lawful residues places h
LawfulIn Circ523 places h = Lawful points places h

-- calls that were made on a fresh station, and the last outcome of theirs
abbrev pub Replayed : Kind → List Call → ℕ → Result (Option Outcome) AllocError → Type 0
Replayed k calls places (Ok None) = length calls ≡ 0
Replayed k calls places (Ok (Some o)) =
    (before : List Outcome) × LawfulIn k places (reverse (events calls (before ++ o ∷ []))) × (length (before ++ o ∷ []) ≡ length calls)
Replayed k calls places (Err e) = Unit {0}

-- how many places the book of a station has
abbrev pub places_in : Shelf → ℕ → Result ℕ WireFault
places_in Chained len = chained.room_in len
places_in Tape len = tape.room_in len

-- what is said is what the last call of a lawful history told, whose calls are those made so far
abbrev pub LastTold : Kind → ℕ → List Lent → Result Said Refusal → Type 0
LastTold k places made said =
    (calls : List Call) × (before : List Outcome) × (last : Outcome) × (map seen calls ≡ made)
    × LawfulIn k places (reverse (events calls (before ++ last ∷ []))) × (length (before ++ last ∷ []) ≡ length made) × (said ≡ told_as (told last))

-- a line on a station says that, or its book has no place for a record, or memory is wanting
abbrev pub Serves : Kind → Result ℕ WireFault → List Lent → Result (Result Answer Refusal) LineFault → Type 0
Serves k (Ok places) made (Ok a) = LastTold k places made (outcome_of a)
Serves k (Err f) made (Ok a) = outcome_of a ≡ Err (wire_tells f)
Serves k room made (Err f) = (f ≡ Memory) ⊎ (made ≡ [])

-- how a station stands: its group, how many places its book has, and the calls on it so far
abbrev pub Standing : Type 0
Standing = Kind × Result ℕ WireFault × List Lent

abbrev pub standing : Ledger → Standing
standing l = (l.kind, places_in l.shelf l.length, map lent_of (vec_items l.entries))

abbrev pub stands : Option Ledger → Option Standing
stands None = None
stands (Some l) = Some (standing l)

-- one call more
abbrev pub grown : Standing → Lent → Standing
grown s x = (s.0, s.1, s.2 ++ x ∷ [])

abbrev pub ServesAt : Standing → Result (Result Answer Refusal) LineFault → Type 0
ServesAt s r = Serves s.0 s.1 s.2 r

-- the call is kept, unless memory is wanting, where the script ends
abbrev pub KeepsCall : Standing → Standing → Result (Result Answer Refusal) LineFault → Type 0
KeepsCall s t (Ok a) = t ≡ s
KeepsCall s t (Err f) = Unit {0}
