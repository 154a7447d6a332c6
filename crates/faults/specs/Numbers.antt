-- What each fault tells: its number, its layer, and the item, which the batch adds.
use Rattle.std.specs.Prelude.{ℕ, List, codes}
use Rattle.faults.specs.declared.Layer.{Layer}
use Rattle.faults.specs.declared.Layer.TheVariants.{Wire, Ring, Group, Proof, Token, Book}
use Rattle.faults.specs.declared.Refusal.{Refusal}
use Rattle.faults.specs.declared.WireFault.{WireFault}
use Rattle.faults.specs.declared.WireFault.TheVariants.{ShortScratch, WrongLength, WrongType, WrongCount, ShortOutlet}
use Rattle.faults.specs.declared.GroupFault.{GroupFault}
use Rattle.faults.specs.declared.GroupFault.TheVariants.{NoElement, NullElement, NoScalar, NullInput}
use Rattle.faults.specs.declared.RingFault.{RingFault}
use Rattle.faults.specs.declared.RingFault.TheVariants.{NotOpen, NotAbove, AllOpen}
use Rattle.faults.specs.declared.TokenFault.{TokenFault}
use Rattle.faults.specs.declared.TokenFault.TheVariants.{OtherKey, OtherAuthenticator}
use Rattle.faults.specs.declared.BatchFault.{BatchFault}
use Rattle.faults.specs.declared.BatchFault.TheVariants.{Wire as BatchWire, Ring as BatchRing, Group as BatchGroup, Item, BadProof}
use Rattle.faults.specs.declared.StationFault.{StationFault}
use Rattle.faults.specs.declared.StationFault.TheVariants.{Wire as StationWire, Ring as StationRing, Group as StationGroup, Batch as StationBatch, Token as StationToken, Book as StationBook}
use Rattle.faults.specs.declared.BookFault.{BookFault}
use Rattle.faults.specs.declared.BookFault.TheVariants.{Spent, Full}

-- the word that stands for a layer in a report
abbrev pub layer_name : Layer → List ℕ
layer_name Wire = codes "wire"
layer_name Ring = codes "ring"
layer_name Group = codes "group"
layer_name Proof = codes "proof"
layer_name Token = codes "token"
layer_name Book = codes "book"

-- a refusal of a layer that is about no item of a batch
abbrev pub refuses : ℕ → Layer → Refusal
refuses n l = record { number = n; layer = l; item = 0 }

abbrev pub wire_tells : WireFault → Refusal
wire_tells ShortScratch = refuses 1 Wire
wire_tells WrongLength = refuses 2 Wire
wire_tells WrongType = refuses 3 Wire
wire_tells WrongCount = refuses 4 Wire
wire_tells ShortOutlet = refuses 9 Wire

abbrev pub group_tells : GroupFault → Refusal
group_tells NoElement = refuses 6 Group
group_tells NullElement = refuses 7 Group
group_tells NoScalar = refuses 8 Group
group_tells NullInput = refuses 10 Group

abbrev pub book_tells : BookFault → Refusal
book_tells Spent = refuses 14 Book
book_tells Full = refuses 15 Book

abbrev pub ring_tells : RingFault → Refusal
ring_tells NotOpen = refuses 5 Ring
ring_tells NotAbove = refuses 16 Ring
ring_tells AllOpen = refuses 17 Ring

abbrev pub token_tells : TokenFault → Refusal
token_tells OtherKey = refuses 12 Token
token_tells OtherAuthenticator = refuses 13 Token

-- the same refusal, of an item
abbrev pub of_item : ℕ → Refusal → Refusal
of_item i r = record { number = r.number; layer = r.layer; item = i }

-- a fault from below tells what it tells there
abbrev pub batch_tells : BatchFault → Refusal
batch_tells (BatchWire f) = wire_tells f
batch_tells (BatchRing f) = ring_tells f
batch_tells (BatchGroup f) = group_tells f
batch_tells (Item i f) = of_item i (group_tells f)
batch_tells BadProof = refuses 11 Proof

abbrev pub station_tells : StationFault → Refusal
station_tells (StationWire f) = wire_tells f
station_tells (StationRing f) = ring_tells f
station_tells (StationGroup f) = group_tells f
station_tells (StationBatch f) = batch_tells f
station_tells (StationToken f) = token_tells f
station_tells (StationBook f) = book_tells f
