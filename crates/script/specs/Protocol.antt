-- What a line asks of the client or of a station.
use Rattle.std.specs.Prelude.{◌≡◌, ℕ, ◌+◌, ◌⊎◌, List, Ok, Err, vec_items, codes, Result}
use Rattle.script.specs.Arguments.{Table}
use Rattle.script.specs.Reading.{then, at_end, rest_of, first_number, first_room, shelf_and_length, one_of, two_of, three_of, four_of}
use Rattle.script.specs.declared.errors.LineFault.{LineFault}
use Rattle.script.specs.declared.errors.LineFault.TheVariants.{Memory}
use Rattle.script.specs.declared.protocol.Action.{Action}
use Rattle.script.specs.declared.protocol.Action.TheVariants as action
use Rattle.script.specs.declared.protocol.Service.{Service}
use Rattle.script.specs.declared.protocol.Service.TheVariants as service
use Rattle.script.specs.declared.protocol.Word.{Word}
use Rattle.script.specs.declared.protocol.Word.TheVariants.{Scratch, Outlet, Blind, Finish, Abandon, Station, Open, Close, Issue, Redeem, Count}
use Rattle.script.specs.declared.reading.Shelf.{Shelf}

-- what is asked of a station
pub data Served : Type 0 where
  open_epoch : ℕ → List ℕ → Served
  close_epoch : ℕ → Served
  issue : List ℕ → List ℕ → Served
  redeem : List ℕ → Served
  count : Served

-- what is asked of the client, of a station, or of the buffers that they are lent
pub data Acted : Type 0 where
  scratch : ℕ → Acted
  outlet : ℕ → Acted
  blind : ℕ → List ℕ → List ℕ → List ℕ → Acted
  finish : List ℕ → List ℕ → List ℕ → List ℕ → Acted
  abandon : Acted
  station : Shelf → ℕ → Acted
  serve : Served → Acted

abbrev pub protocol_word : Word → List ℕ
protocol_word Scratch = codes "scratch"
protocol_word Outlet = codes "outlet"
protocol_word Blind = codes "blind"
protocol_word Finish = codes "finish"
protocol_word Abandon = codes "abandon"
protocol_word Station = codes "station"
protocol_word Open = codes "open"
protocol_word Close = codes "close"
protocol_word Issue = codes "issue"
protocol_word Redeem = codes "redeem"
protocol_word Count = codes "count"

-- what each word asks for, with the words after it
abbrev pub acted : Table → Word → ℕ → List (List ℕ) → Result Acted LineFault
acted table Scratch at ws = then (first_number 65536 at ws) (λ n. then (at_end (at + 1) (rest_of ws)) (λ _. Ok (scratch n)))
acted table Outlet at ws = then (first_room at ws) (λ n. then (at_end (at + 1) (rest_of ws)) (λ _. Ok (outlet n)))
acted table Blind at ws =
    then (first_number 65535 at ws) (λ e. then (three_of table (at + 1) (rest_of ws)) (λ b. Ok (blind e b.0 b.1 b.2)))
acted table Finish at ws = then (four_of table at ws) (λ b. Ok (finish b.0 b.1 b.2 b.3))
acted table Abandon at ws = then (at_end at ws) (λ _. Ok abandon)
acted table Station at ws = then (shelf_and_length at ws) (λ b. Ok (station b.0 b.1))
acted table Open at ws =
    then (first_number 65535 at ws) (λ e. then (one_of table (at + 1) (rest_of ws)) (λ key. Ok (serve (open_epoch e key))))
acted table Close at ws = then (first_number 65535 at ws) (λ e. then (at_end (at + 1) (rest_of ws)) (λ _. Ok (serve (close_epoch e))))
acted table Issue at ws = then (two_of table at ws) (λ b. Ok (serve (issue b.0 b.1)))
acted table Redeem at ws = then (one_of table at ws) (λ t. Ok (serve (redeem t)))
acted table Count at ws = then (at_end at ws) (λ _. Ok (serve count))

-- the same of what was read
abbrev pub served_of : Service → Served
served_of (service.Open e key) = open_epoch e (vec_items key)
served_of (service.Close e) = close_epoch e
served_of (service.Issue request nonce) = issue (vec_items request) (vec_items nonce)
served_of (service.Redeem t) = redeem (vec_items t)
served_of service.Count = count

abbrev pub acted_of : Action → Acted
acted_of (action.Scratch n) = scratch n
acted_of (action.Outlet n) = outlet n
acted_of (action.Blind e pk seeds blinds) = blind e (vec_items pk) (vec_items seeds) (vec_items blinds)
acted_of (action.Finish pk seeds blinds reply) = finish (vec_items pk) (vec_items seeds) (vec_items blinds) (vec_items reply)
acted_of action.Abandon = abandon
acted_of (action.Station s n) = station s n
acted_of (action.Serve s) = serve (served_of s)

-- the words are read as what they ask for, or memory is wanting
abbrev pub Acts : Result Acted LineFault → Result Action LineFault → Type 0
Acts a (Ok t) = a ≡ Ok (acted_of t)
Acts a (Err f) = (f ≡ Memory) ⊎ (a ≡ Err f)
