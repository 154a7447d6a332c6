-- The bytes that travel, for every kind of group. Numbers of several bytes have the high byte first.
use Rattle.std.specs.Prelude.{ℕ, ◌+◌, ◌*◌, ◌/◌, Bool, cond, not, ◌||◌, List, [], ◌∷◌, ◌++◌, length, take, drop, Some, None, Ok, Option, Result, ◌==◌, nat_lt, slice_index}
use Rattle.faults.specs.declared.WireFault.{WireFault}
use Rattle.faults.specs.declared.WireFault.TheVariants.{WrongLength, WrongType, WrongCount, ShortOutlet}
use Rattle.numbers.specs.Bytes.{two_bytes}
use Rattle.scalar.specs.Scalars.{scalar_code}
use Rattle.group.specs.Model.{Model}
use Rattle.group.specs.Theorems.{row}
use Rattle.messages.specs.Answers.{ruled}
use Rattle.messages.specs.declared.Header.{Header}

-- What a request says: its epoch, how many items it has, and their codes in a row.
pub record Batch : Type 0 where
  pub epoch : ℕ
  pub count : ℕ
  pub items : List ℕ

-- What a reply says: the same with the codes of the answers, and the two scalars of the proof.
pub record Answers : Type 0 where
  pub epoch : ℕ
  pub count : ℕ
  pub items : List ℕ
  pub challenge : List ℕ
  pub response : List ℕ

-- What a token says.
pub record Parts : Type 0 where
  pub kind : ℕ
  pub epoch : ℕ
  pub nonce : List ℕ
  pub context : List ℕ
  pub key_id : List ℕ
  pub authenticator : List ℕ

-- type (2 bytes), epoch (2), n (1)
unfoldable pub head_bytes : ℕ → ℕ → ℕ → List ℕ
head_bytes kind epoch n = two_bytes kind ++ (two_bytes epoch ++ (n ∷ []))

-- type (2), epoch (2), nonce (32), context (32), key id (32)
unfoldable pub token_input_bytes : ℕ → ℕ → List ℕ → List ℕ → List ℕ → List ℕ
token_input_bytes kind epoch nonce context key_id = two_bytes kind ++ (two_bytes epoch ++ (nonce ++ (context ++ key_id)))

-- the input and the authenticator (32)
unfoldable pub token_bytes : List ℕ → List ℕ → List ℕ
token_bytes input authenticator = input ++ authenticator

-- the number in the two bytes at a place
abbrev pub number_at : List ℕ → ℕ → ℕ
number_at bytes at = slice_index bytes at * 256 + slice_index bytes (at + 1)

-- the fields at the front
abbrev pub kind_in : List ℕ → ℕ
kind_in bytes = number_at bytes 0

abbrev pub epoch_in : List ℕ → ℕ
epoch_in bytes = number_at bytes 2

abbrev pub count_in : List ℕ → ℕ
count_in bytes = slice_index bytes 4

abbrev pub header_in : List ℕ → Header
header_in bytes = record { kind = kind_in bytes; epoch = epoch_in bytes; count = count_in bytes }

-- type, epoch and n, and what comes after them
unfoldable pub header_of : List ℕ → Result (Header × List ℕ) WireFault
header_of bytes = ruled ((nat_lt (length bytes) 5, WrongLength) ∷ []) (Ok (header_in bytes, drop 5 bytes))

-- a batch has 1 to 16 items
abbrev pub no_count : ℕ → Bool
no_count n = n == 0 || nat_lt 16 n

-- the input of a token: nonce, context and key id have 32 bytes each
unfoldable pub token_input_of : ℕ → ℕ → List ℕ → List ℕ → List ℕ → Result (List ℕ) WireFault
token_input_of kind epoch nonce context key_id =
    ruled ((not (length nonce == 32), WrongLength) ∷ (not (length context == 32), WrongLength) ∷ [])
    (Ok (token_input_bytes kind epoch nonce context key_id))

-- a token needs 132 bytes of an outlet
unfoldable pub writes_token : ℕ → Result ℕ WireFault
writes_token room = ruled ((nat_lt room 132, ShortOutlet) ∷ []) (Ok 132)

-- what stands in the bytes of a token
abbrev pub token_in : List ℕ → Parts
token_in bytes = record {
  kind = kind_in bytes;
  epoch = epoch_in bytes;
  nonce = take 32 (drop 4 bytes);
  context = take 32 (drop 36 bytes);
  key_id = take 32 (drop 68 bytes);
  authenticator = take 32 (drop 100 bytes);
}

-- what a reader answers to a token
unfoldable pub read_token : List ℕ → Result Parts WireFault
read_token bytes = ruled ((not (length bytes == 132), WrongLength) ∷ []) (Ok (token_in bytes))

module _ {E S K : Type 0} (m : Model E S K) where
  -- a request: type, epoch, n and the codes
  unfoldable pub request_bytes : Batch → List ℕ
  request_bytes b = head_bytes m.kind b.epoch b.count ++ b.items

  -- a reply: type, epoch, n, the codes, c and s
  unfoldable pub reply_bytes : Answers → List ℕ
  reply_bytes a = head_bytes m.kind a.epoch a.count ++ (a.items ++ (a.challenge ++ a.response))

  -- the request of an epoch for elements
  abbrev pub batch_of : ℕ → List E → Batch
  batch_of epoch bs = record { epoch = epoch; count = length bs; items = row m bs }

  unfoldable pub written_request : ℕ → List E → List ℕ
  written_request epoch bs = request_bytes (batch_of epoch bs)

  -- the reply of an epoch with elements and a proof
  abbrev pub answers_of : ℕ → List E → S → S → Answers
  answers_of epoch es c s = record {
    epoch = epoch;
    count = length es;
    items = row m es;
    challenge = scalar_code m.scalars c;
    response = scalar_code m.scalars s;
  }

  unfoldable pub written_reply : ℕ → List E → S → S → List ℕ
  written_reply epoch es c s = reply_bytes (answers_of epoch es c s)

  -- where the code of item i stands, counted from 0; the place after the last is the request's end, or the reply's c
  unfoldable pub place : ℕ → ℕ
  place i = 5 + i * m.element_width

  unfoldable pub request_length : ℕ → ℕ
  request_length n = place n

  unfoldable pub reply_length : ℕ → ℕ
  reply_length n = place n + 2 * m.scalars.width

  -- the code of item i in a message
  unfoldable pub code_in : List ℕ → ℕ → List ℕ
  code_in bytes i = take m.element_width (drop (place i) bytes)

  -- the checks of every batch, in their order
  abbrev pub front_checks : List ℕ → List (Bool × WireFault)
  front_checks bytes =
      (nat_lt (length bytes) 5, WrongLength) ∷
      (not (kind_in bytes == m.kind), WrongType) ∷
      (no_count (count_in bytes), WrongCount) ∷ []

  -- type, epoch and n of a batch, and what comes after them
  unfoldable pub front_of : List ℕ → Result (Header × List ℕ) WireFault
  front_of bytes = ruled (front_checks bytes) (Ok (header_in bytes, drop 5 bytes))

  -- what a reader answers to a request
  unfoldable pub read_request : List ℕ → Result Batch WireFault
  read_request bytes =
      ruled (front_checks bytes) (
      ruled ((not (length bytes == request_length (count_in bytes)), WrongLength) ∷ [])
      (Ok record { epoch = epoch_in bytes; count = count_in bytes; items = drop 5 bytes }))

  -- what comes after the front of a reply of n items: the codes, c and s
  unfoldable pub split_reply : ℕ → List ℕ → Result (List ℕ × List ℕ × List ℕ) WireFault
  split_reply n rest =
      ruled ((not (5 + length rest == reply_length n), WrongLength) ∷ [])
      (Ok (
        take (n * m.element_width) rest,
        take m.scalars.width (drop (n * m.element_width) rest),
        drop m.scalars.width (drop (n * m.element_width) rest),
      ))

  -- what a reader answers to a reply
  unfoldable pub read_reply : List ℕ → Result Answers WireFault
  read_reply bytes =
      ruled (front_checks bytes) (
      ruled ((not (length bytes == reply_length (count_in bytes)), WrongLength) ∷ [])
      (Ok record {
        epoch = epoch_in bytes;
        count = count_in bytes;
        items = take (count_in bytes * m.element_width) (drop 5 bytes);
        challenge = take m.scalars.width (drop (place (count_in bytes)) bytes);
        response = drop (place (count_in bytes) + m.scalars.width) bytes;
      }))

  -- item i of codes in a row, counted from 0, if there are so many
  unfoldable pub item_at : List ℕ → ℕ → Option (List ℕ)
  item_at items i = cond (nat_lt i (length items / m.element_width)) (Some (take m.element_width (drop (i * m.element_width) items))) None

  -- what a writer answers: how many bytes it wrote
  unfoldable pub writes_request : Batch → ℕ → Result ℕ WireFault
  writes_request b room =
      ruled
      ((no_count b.count, WrongCount) ∷
      (not (length b.items == b.count * m.element_width), WrongLength) ∷
      (nat_lt room (request_length b.count), ShortOutlet) ∷ [])
      (Ok (request_length b.count))

  unfoldable pub writes_reply : Answers → ℕ → Result ℕ WireFault
  writes_reply a room =
      ruled
      ((no_count a.count, WrongCount) ∷
      (not (length a.items == a.count * m.element_width), WrongLength) ∷
      (not (length a.challenge == m.scalars.width), WrongLength) ∷
      (not (length a.response == m.scalars.width), WrongLength) ∷
      (nat_lt room (reply_length a.count), ShortOutlet) ∷ [])
      (Ok (reply_length a.count))
