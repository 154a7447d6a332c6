-- What readers and writers are to one another, for every kind of group. A batch is an epoch and elements; with a
-- reply come the two scalars of its proof.
use Rattle.std.specs.Prelude.{◌≡◌, ℕ, ◌<◌, ◌≤◌, List, ◌++◌, length, take, drop, Some, None, Ok, Err, Option, Result, slice_index_or}
use Rattle.faults.specs.declared.WireFault.{WireFault}
use Rattle.scalar.specs.Scalars.{scalar_code, scalar_of}
use Rattle.group.specs.Model.{Model, Bytes}
use Rattle.group.specs.Weighted.{elements}
use Rattle.messages.specs.Messages.{Batch, Answers, Parts, read_request, read_reply, read_token, written_request, written_reply, token_input_bytes, token_bytes, place, code_in, item_at}

module _ {E S K : Type 0} (m : Model E S K) where
  abbrev pub batch_from : ℕ → Result (List E) ℕ → Option (ℕ × List E)
  batch_from epoch (Ok bs) = Some (epoch, bs)
  batch_from epoch (Err i) = None

  abbrev pub request_from : Result Batch WireFault → Option (ℕ × List E)
  request_from (Ok b) = batch_from b.epoch (elements m 1 b.count b.items)
  request_from (Err f) = None

  -- the batch that bytes are read as: a request, all of whose codes are elements
  unfoldable pub request_batch : List ℕ → Option (ℕ × List E)
  request_batch bytes = request_from (read_request m bytes)

  abbrev pub answers_from : ℕ → Result (List E) ℕ → Option S → Option S → Option (ℕ × List E × S × S)
  answers_from epoch (Ok es) (Some c) (Some s) = Some (epoch, es, c, s)
  answers_from epoch (Ok es) (Some c) None = None
  answers_from epoch (Ok es) None s = None
  answers_from epoch (Err i) c s = None

  abbrev pub reply_from : Result Answers WireFault → Option (ℕ × List E × S × S)
  reply_from (Ok a) =
      answers_from a.epoch (elements m 1 a.count a.items) (scalar_of m.scalars a.challenge) (scalar_of m.scalars a.response)
  reply_from (Err f) = None

  -- the answers that bytes are read as: a reply, all of whose codes are elements and scalars
  unfoldable pub reply_batch : List ℕ → Option (ℕ × List E × S × S)
  reply_batch bytes = reply_from (read_reply m bytes)

-- an epoch of two bytes with 1 to 16 items
abbrev pub Sized : {X : Type 0} → ℕ → List X → Type 0
Sized epoch xs = (epoch < 65536) × (1 ≤ length xs) × (length xs ≤ 16)

-- A batch that one end writes, the other end reads as that batch.
pub record RoundTrip {E S K : Type 0} (m : Model E S K) : Type 0 where
  pub request : (epoch : ℕ) (bs : List E) → Sized epoch bs → request_batch m (written_request m epoch bs) ≡ Some (epoch, bs)
  pub reply : (epoch : ℕ) (es : List E) (c s : S) → Sized epoch es → reply_batch m (written_reply m epoch es c s) ≡ Some (epoch, es, c, s)

-- Only its one encoding is read: what is read was written from its batch, and two byte strings that are read as
-- one batch are equal.
pub record OneEncoding {E S K : Type 0} (m : Model E S K) : Type 0 where
  pub request : (bytes : List ℕ) → Bytes bytes → (epoch : ℕ) (bs : List E) → request_batch m bytes ≡ Some (epoch, bs) →
      (bytes ≡ written_request m epoch bs) × Sized epoch bs
  pub reply : (bytes : List ℕ) → Bytes bytes → (epoch : ℕ) (es : List E) (c s : S) → reply_batch m bytes ≡ Some (epoch, es, c, s) →
      (bytes ≡ written_reply m epoch es c s) × Sized epoch es
  pub one_request : (x y : List ℕ) → Bytes x → Bytes y → (b : ℕ × List E) → request_batch m x ≡ Some b → request_batch m y ≡ Some b → x ≡ y
  pub one_reply : (x y : List ℕ) → Bytes x → Bytes y → (b : ℕ × List E × S × S) → reply_batch m x ≡ Some b → reply_batch m y ≡ Some b → x ≡ y

-- Each item's code stands at its place, is what the item of that number is, and decodes to the item. The place
-- after the last is the request's end, or where the reply's c stands; s comes after it.
pub record Placed {E S K : Type 0} (m : Model E S K) : Type 0 where
  pub request : (bytes : List ℕ) (epoch : ℕ) (bs : List E) → request_batch m bytes ≡ Some (epoch, bs) → (i : ℕ) (d : E) → i < length bs →
      (code_in m bytes i ≡ m.code (slice_index_or bs i d)) × (m.element (code_in m bytes i) ≡ Some (slice_index_or bs i d)) × (item_at m (drop 5 bytes) i ≡ Some (code_in m bytes i))
  pub request_end : (bytes : List ℕ) (epoch : ℕ) (bs : List E) → request_batch m bytes ≡ Some (epoch, bs) → length bytes ≡ place m (length bs)
  pub reply : (bytes : List ℕ) (epoch : ℕ) (es : List E) (c s : S) → reply_batch m bytes ≡ Some (epoch, es, c, s) → (i : ℕ) (d : E) → i < length es →
      (code_in m bytes i ≡ m.code (slice_index_or es i d)) × (m.element (code_in m bytes i) ≡ Some (slice_index_or es i d))
  pub reply_end : (bytes : List ℕ) (epoch : ℕ) (es : List E) (c s : S) → reply_batch m bytes ≡ Some (epoch, es, c, s) →
      drop (place m (length es)) bytes ≡ scalar_code m.scalars c ++ scalar_code m.scalars s

-- a token of its parts
abbrev pub written_token : Parts → List ℕ
written_token p = token_bytes (token_input_bytes p.kind p.epoch p.nonce p.context p.key_id) p.authenticator

-- type and epoch have two bytes, everything else 32
pub record Fitting (p : Parts) : Type 0 where
  pub kind : p.kind < 65536
  pub epoch : p.epoch < 65536
  pub nonce : length p.nonce ≡ 32
  pub context : length p.context ≡ 32
  pub key_id : length p.key_id ≡ 32
  pub authenticator : length p.authenticator ≡ 32

-- The same of tokens; the input that a token's authenticator is of are its first 100 bytes.
pub record TokenTrip : Type 0 where
  pub again : (p : Parts) → Fitting p → read_token (written_token p) ≡ Ok p
  pub only : (bytes : List ℕ) → Bytes bytes → (p : Parts) → read_token bytes ≡ Ok p → (bytes ≡ written_token p) × Fitting p
  pub one : (x y : List ℕ) → Bytes x → Bytes y → (p : Parts) → read_token x ≡ Ok p → read_token y ≡ Ok p → x ≡ y
  pub input : (p : Parts) → Fitting p → take 100 (written_token p) ≡ token_input_bytes p.kind p.epoch p.nonce p.context p.key_id
