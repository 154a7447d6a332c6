-- What a line at the counter comes to.
use Rattle.std.specs.Prelude.{◌≡◌, ℕ, [], Some, None, Ok, Err, Option, Result}
use Rattle.commands.specs.declared.Kind.{Kind}
use Rattle.faults.specs.Numbers.{wire_tells}
use Rattle.faults.specs.declared.Refusal.{Refusal}
use Rattle.faults.specs.declared.WireFault.{WireFault}
use Rattle.script.specs.Protocol.{Acted, Served, scratch, outlet, blind, finish, abandon, station, serve}
use Rattle.script.specs.Reports.{Said, done, outcome_of}
use Rattle.script.specs.declared.answers.Answer.{Answer}
use Rattle.script.specs.declared.errors.LineFault.{LineFault}
use Rattle.script.specs.declared.errors.LineFault.TheVariants.{NoStation}
use Rattle.counter.specs.Ledgers.{Standing, lent, grown, places_in, ServesAt, KeepsCall}
use Rattle.counter.specs.Orders.{Waiting, blind_turn, finish_turn, abandon_turn, Takes}
use Rattle.counter.specs.declared.orders.Buffers.{Buffers}

-- the lengths of the buffers for the lines below
abbrev pub lengths_after : Acted → Buffers → Buffers
lengths_after (scratch n) b = record { scratch = n; outlet = b.outlet }
lengths_after (outlet n) b = record { scratch = b.scratch; outlet = n }
lengths_after (blind epoch pk seeds blinds) b = b
lengths_after (finish pk seeds blinds reply) b = b
lengths_after abandon b = b
lengths_after (station s n) b = b
lengths_after (serve s) b = b

-- what is said, and the batch that is pending after it
abbrev pub Answered : Kind → Buffers → Waiting → Waiting → Acted → Result (Result Answer Refusal) LineFault → Type 0
Answered k b before after (scratch n) r = Takes (Ok (Ok done), before) before after r
Answered k b before after (outlet n) r = Takes (Ok (Ok done), before) before after r
Answered k b before after (blind epoch pk seeds blinds) r = Takes (blind_turn k b.scratch b.outlet before epoch pk seeds blinds) before after r
Answered k b before after (finish pk seeds blinds reply) r = Takes (finish_turn k b.scratch b.outlet before pk seeds blinds reply) before after r
Answered k b before after abandon r = Takes (abandon_turn before) before after r
Answered k b before after (station s n) r = after ≡ before
Answered k b before after (serve s) r = after ≡ before

-- a station is made where its book has places, and none stands where it has not
abbrev pub Founded : Kind → Result ℕ WireFault → Option Standing → Result Said Refusal → Type 0
Founded k (Ok places) after said = (said ≡ Ok done) × (after ≡ Some (k, Ok places, []))
Founded k (Err f) after said = (said ≡ Err (wire_tells f)) × (after ≡ None)

abbrev pub Founds : Kind → Result ℕ WireFault → Option Standing → Result (Result Answer Refusal) LineFault → Type 0
Founds k room after (Ok a) = Founded k room after (outcome_of a)
Founds k room after (Err f) = ⊥

-- a call on the station that stands
abbrev pub Called : Option Standing → Option Standing → Buffers → Served → Result (Result Answer Refusal) LineFault → Type 0
Called None after b s r = (r ≡ Err NoStation) × (after ≡ None)
Called (Some st) None b s r = ⊥
Called (Some st) (Some after) b s r = ServesAt (grown st (lent b s)) r × KeepsCall (grown st (lent b s)) after r

-- what a station says, and how it stands after a line
abbrev pub Stations : Kind → Buffers → Option Standing → Option Standing → Acted → Result (Result Answer Refusal) LineFault → Type 0
Stations k b before after (scratch n) r = after ≡ before
Stations k b before after (outlet n) r = after ≡ before
Stations k b before after (blind epoch pk seeds blinds) r = after ≡ before
Stations k b before after (finish pk seeds blinds reply) r = after ≡ before
Stations k b before after abandon r = after ≡ before
Stations k b before after (station s n) r = Founds k (places_in s n) after r
Stations k b before after (serve s) r = Called before after b s r
