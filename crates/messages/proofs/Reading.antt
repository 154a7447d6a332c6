-- The readers: what each part of a message makes them answer.
use Rattle.std.proofs.Common.{◌≡◌, ℕ, ◌+◌, ◌*◌, ◌<◌, ◌≤◌, Bool, true, false, cond, not, eqb, ltb, ◌⊎◌, List, [], ◌∷◌, length, take, drop, Ok, Err, sym, ap, ◌∙◌, ⊎_elim, arith, length-drop, drop-drop}
use Rattle.std.proofs.lemmas.Bool.{ltb-false, lt-ltb, le-ltb, eq-eqb, ne_eqb, or_left, or_right, or_from, or_parts, eqb-false}
use Rattle.faults.specs.declared.WireFault.{WireFault}
use Rattle.faults.specs.declared.WireFault.TheVariants.{WrongLength, WrongType, WrongCount}
use Rattle.group.specs.Model.{Model}
use Rattle.messages.specs.Answers.{ruled}
use Rattle.messages.specs.Messages.{Batch, Answers, kind_in, epoch_in, count_in, header_in, header_of, no_count, front_checks, front_of, place, request_length, reply_length, read_request, read_reply, split_reply, token_in, read_token}
use Rattle.messages.specs.declared.Header.{Header}
use Rattle.messages.proofs.Ruled.{after, passed, stopped, passes, ruled_after, same_answer, equal_passes, unequal_stops, passed_equal}

-- the length of a header decides what it is read as
pub header_short : (bytes : List ℕ) → length bytes < 5 → header_of bytes ≡ Err WrongLength
unfolding header_of
header_short bytes h = ap (λ b. ruled ((b, WrongLength) ∷ []) (Ok (header_in bytes, drop 5 bytes))) (lt-ltb (length bytes) 5 h)

pub header_whole : (bytes : List ℕ) → 5 ≤ length bytes → header_of bytes ≡ Ok (header_in bytes, drop 5 bytes)
unfolding header_of
header_whole bytes h = ap (λ b. ruled ((b, WrongLength) ∷ []) (Ok (header_in bytes, drop 5 bytes))) (le-ltb (length bytes) 5 h)

-- what was read stands there
pub header_read : (bytes : List ℕ) (h : Header) (rest : List ℕ) → header_of bytes ≡ Ok (h, rest) →
    (5 ≤ length bytes) × (h ≡ header_in bytes) × (rest ≡ drop 5 bytes)
unfolding header_of
header_read bytes h rest e =
    let got = passes ((ltb (length bytes) 5, WrongLength) ∷ []) (Ok (header_in bytes, drop 5 bytes)) (h, rest) e in
    let same = same_answer (header_in bytes, drop 5 bytes) (h, rest) got.1 in
    (ltb-false (length bytes) 5 got.0.0, sym (ap (λ x. x.0) same), sym (ap (λ x. x.1) same))

pub counted : (n : ℕ) → 1 ≤ n → n ≤ 16 → no_count n ≡ false
counted n l h = or_from (eqb n 0) (ltb 16 n) (ne_eqb n 0 (omega arith)) (le-ltb 16 n h)

pub uncounted : (n : ℕ) → (n ≡ 0) ⊎ ((n ≡ 0 → ⊥) × (16 < n)) → no_count n ≡ true
uncounted n h = ⊎_elim (λ z. or_left (eqb n 0) (ltb 16 n) (eq-eqb n 0 z)) (λ z. or_right (eqb n 0) (ltb 16 n) (lt-ltb 16 n z.1)) h

pub counts : (n : ℕ) → no_count n ≡ false → (1 ≤ n) × (n ≤ 16)
counts n e =
    let both = or_parts (eqb n 0) (ltb 16 n) e in
    let some = eqb-false n 0 both.0 in
    (omega arith, ltb-false 16 n both.1)

module _ {E S K : Type 0} (m : Model E S K) (bytes : List ℕ) where
  -- the checks after the header's own
  abbrev type_check : Bool × WireFault
  type_check = (not (eqb (kind_in bytes) m.kind), WrongType)

  abbrev count_check : Bool × WireFault
  count_check = (no_count (count_in bytes), WrongCount)

  pub front_short : (f : WireFault) → header_of bytes ≡ Err f → front_of m bytes ≡ Err f
  unfolding header_of front_of
  front_short f e =
      let next = ruled (type_check ∷ count_check ∷ []) (Ok (header_in bytes, drop 5 bytes)) in
      ruled_after ((ltb (length bytes) 5, WrongLength) ∷ []) (header_in bytes, drop 5 bytes) next ∙ ap (λ r. after r next) e

  module _ (h : Header) (rest : List ℕ) (e : header_of bytes ≡ Ok (h, rest)) where
    front_next : front_of m bytes ≡ ruled (type_check ∷ count_check ∷ []) (Ok (header_in bytes, drop 5 bytes))
    unfolding header_of front_of
    front_next =
        let next = ruled (type_check ∷ count_check ∷ []) (Ok (header_in bytes, drop 5 bytes)) in
        ruled_after ((ltb (length bytes) 5, WrongLength) ∷ []) (header_in bytes, drop 5 bytes) next ∙ ap (λ r. after r next) e

    kind_is : h.kind ≡ kind_in bytes
    kind_is = ap (λ x. x.kind) (header_read bytes h rest e).1

    count_is : h.count ≡ count_in bytes
    count_is = ap (λ x. x.count) (header_read bytes h rest e).1

    pub front_other : (h.kind ≡ m.kind → ⊥) → front_of m bytes ≡ Err WrongType
    front_other ne =
        front_next ∙ stopped type_check (count_check ∷ []) (Ok (header_in bytes, drop 5 bytes))
        (unequal_stops (kind_in bytes) m.kind (λ k. ne (kind_is ∙ k)))

    same_kind : h.kind ≡ m.kind → type_check.0 ≡ false
    same_kind k = equal_passes (kind_in bytes) m.kind (sym kind_is ∙ k)

    pub front_uncounted : h.kind ≡ m.kind → no_count h.count ≡ true → front_of m bytes ≡ Err WrongCount
    front_uncounted k n =
        front_next ∙ ap (λ b. cond b (Err WrongType) (ruled (count_check ∷ []) (Ok (header_in bytes, drop 5 bytes)))) (same_kind k) ∙
        stopped count_check [] (Ok (header_in bytes, drop 5 bytes)) (ap no_count (sym count_is) ∙ n)

    pub front_whole : h.kind ≡ m.kind → no_count h.count ≡ false → front_of m bytes ≡ Ok (h, rest)
    front_whole k n =
        let read = header_read bytes h rest e in
        front_next ∙ passed (type_check ∷ count_check ∷ []) (Ok (header_in bytes, drop 5 bytes)) (same_kind k, (ap no_count (sym count_is) ∙ n, tt)) ∙
        ap (λ x. Ok (x, drop 5 bytes)) (sym read.1) ∙ ap (λ x. Ok (h, x)) (sym read.2)

  -- a front that was read
  pub front_read : (h : Header) (rest : List ℕ) → front_of m bytes ≡ Ok (h, rest) →
      (5 ≤ length bytes) × (h ≡ header_in bytes) × (rest ≡ drop 5 bytes) × (kind_in bytes ≡ m.kind) × (1 ≤ count_in bytes) × (count_in bytes ≤ 16)
  unfolding front_of
  front_read h rest e =
      let got = passes (front_checks m bytes) (Ok (header_in bytes, drop 5 bytes)) (h, rest) e in
      let same = same_answer (header_in bytes, drop 5 bytes) (h, rest) got.1 in
      let count = counts (count_in bytes) got.0.1.1.0 in (
        ltb-false (length bytes) 5 got.0.0,
        sym (ap (λ x. x.0) same),
        sym (ap (λ x. x.1) same),
        passed_equal (kind_in bytes) m.kind got.0.1.0,
        count.0,
        count.1,
      )

  -- a request is read by its front, and then by its length
  abbrev request_length_check : Bool × WireFault
  request_length_check = (not (eqb (length bytes) (request_length m (count_in bytes))), WrongLength)

  abbrev request_in : Batch
  request_in = record { epoch = epoch_in bytes; count = count_in bytes; items = drop 5 bytes }

  request_by_front : read_request m bytes ≡ after (front_of m bytes) (ruled (request_length_check ∷ []) (Ok request_in))
  unfolding read_request front_of
  request_by_front = ruled_after (front_checks m bytes) (header_in bytes, drop 5 bytes) (ruled (request_length_check ∷ []) (Ok request_in))

  pub request_refused : (f : WireFault) → front_of m bytes ≡ Err f → read_request m bytes ≡ Err f
  request_refused f e = request_by_front ∙ ap (λ r. after r (ruled (request_length_check ∷ []) (Ok request_in))) e

  module _ (h : Header) (rest : List ℕ) (e : front_of m bytes ≡ Ok (h, rest)) where
    request_next : read_request m bytes ≡ ruled (request_length_check ∷ []) (Ok request_in)
    request_next = request_by_front ∙ ap (λ r. after r (ruled (request_length_check ∷ []) (Ok request_in))) e

    -- the rest is as long as it must be where the whole is
    count_of : h.count ≡ count_in bytes
    count_of = ap (λ x. x.count) (front_read h rest e).1

    rest_long : length bytes ≡ 5 + length rest
    rest_long =
        let read = front_read h rest e in
        omega (arith, read.0, ap length read.2, length-drop 5 bytes)

    pub request_wrong : (length rest ≡ h.count * m.element_width → ⊥) → read_request m bytes ≡ Err WrongLength
    unfolding request_length place
    request_wrong ne =
        request_next ∙ stopped request_length_check [] (Ok request_in)
        (unequal_stops (length bytes) (request_length m (count_in bytes)) (λ l. ne (omega (arith, l, rest_long, ap (λ (n : ℕ). n * m.element_width) count_of))))

    pub request_whole : length rest ≡ h.count * m.element_width → read_request m bytes ≡ Ok record { epoch = h.epoch; count = h.count; items = rest }
    unfolding request_length place
    request_whole l =
        let read = front_read h rest e in
        let long : length bytes ≡ request_length m (count_in bytes) = omega (arith, l, rest_long, ap (λ (n : ℕ). n * m.element_width) count_of) in
        let same : request_in ≡ record { epoch = h.epoch; count = h.count; items = rest } = cc (ap (λ x. x.epoch) read.1, count_of, read.2) in
        request_next ∙ passed (request_length_check ∷ []) (Ok request_in)
        (equal_passes (length bytes) (request_length m (count_in bytes)) long, tt) ∙
        ap (λ b. Ok b) same

  -- a reply is read by its front, and then by its split
  abbrev reply_length_check : Bool × WireFault
  reply_length_check = (not (eqb (length bytes) (reply_length m (count_in bytes))), WrongLength)

  abbrev reply_in : Answers
  reply_in =
      record {
        epoch = epoch_in bytes;
        count = count_in bytes;
        items = take (count_in bytes * m.element_width) (drop 5 bytes);
        challenge = take m.scalars.width (drop (place m (count_in bytes)) bytes);
        response = drop (place m (count_in bytes) + m.scalars.width) bytes;
      }

  reply_by_front : read_reply m bytes ≡ after (front_of m bytes) (ruled (reply_length_check ∷ []) (Ok reply_in))
  unfolding read_reply front_of
  reply_by_front = ruled_after (front_checks m bytes) (header_in bytes, drop 5 bytes) (ruled (reply_length_check ∷ []) (Ok reply_in))

  pub reply_refused : (f : WireFault) → front_of m bytes ≡ Err f → read_reply m bytes ≡ Err f
  reply_refused f e = reply_by_front ∙ ap (λ r. after r (ruled (reply_length_check ∷ []) (Ok reply_in))) e

module _ {E S K : Type 0} (m : Model E S K) (n : ℕ) (rest : List ℕ) where
  -- what comes after the front of a reply
  abbrev pub split_check : Bool × WireFault
  split_check = (not (eqb (5 + length rest) (reply_length m n)), WrongLength)

  abbrev pub split_in : List ℕ × List ℕ × List ℕ
  split_in = (
    take (n * m.element_width) rest,
    take m.scalars.width (drop (n * m.element_width) rest),
    drop m.scalars.width (drop (n * m.element_width) rest),
  )

  pub split_wrong : (length rest ≡ n * m.element_width + 2 * m.scalars.width → ⊥) → split_reply m n rest ≡ Err WrongLength
  unfolding split_reply reply_length place
  split_wrong ne =
      stopped split_check [] (Ok split_in)
      (unequal_stops (5 + length rest) (reply_length m n) (λ l. ne (omega arith)))

  pub split_whole : length rest ≡ n * m.element_width + 2 * m.scalars.width → split_reply m n rest ≡ Ok split_in
  unfolding split_reply reply_length place
  split_whole l =
      passed (split_check ∷ []) (Ok split_in)
      (equal_passes (5 + length rest) (reply_length m n) (omega arith), tt)

module _ {E S K : Type 0} (m : Model E S K) (bytes : List ℕ) (h : Header) (rest : List ℕ) (e : front_of m bytes ≡ Ok (h, rest)) where
  reply_by_split : read_reply m bytes ≡ after (split_reply m h.count rest) (Ok (reply_in m bytes))
  unfolding split_reply
  reply_by_split =
      let long = rest_long m bytes h rest e in
      let count = count_of m bytes h rest e in
      reply_by_front m bytes ∙ ap (λ r. after r (ruled (reply_length_check m bytes ∷ []) (Ok (reply_in m bytes)))) e ∙
      ap (λ (l : ℕ). ruled ((not (eqb l (reply_length m (count_in bytes))), WrongLength) ∷ []) (Ok (reply_in m bytes))) long ∙
      ap (λ (c : ℕ). ruled ((not (eqb (5 + length rest) (reply_length m c)), WrongLength) ∷ []) (Ok (reply_in m bytes))) (sym count) ∙
      ruled_after (split_check m h.count rest ∷ []) (split_in m h.count rest) (Ok (reply_in m bytes))

  pub reply_wrong : (f : WireFault) → split_reply m h.count rest ≡ Err f → read_reply m bytes ≡ Err f
  reply_wrong f w = reply_by_split ∙ ap (λ r. after r (Ok (reply_in m bytes))) w

  pub reply_whole : (xs cs ss : List ℕ) → split_reply m h.count rest ≡ Ok (xs, cs, ss) →
      read_reply m bytes ≡ Ok record { epoch = h.epoch; count = h.count; items = xs; challenge = cs; response = ss }
  unfolding split_reply place
  reply_whole xs cs ss w =
      let read = front_read m bytes h rest e in
      let n = h.count in
      let ne = m.element_width in
      let ns = m.scalars.width in
      let count = count_of m bytes h rest e in
      let got = passes (split_check m n rest ∷ []) (Ok (split_in m n rest)) (xs, cs, ss) w in
      let same = same_answer (split_in m n rest) (xs, cs, ss) got.1 in
      let later : drop (n * ne) rest ≡ drop (place m n) bytes = ap (drop (n * ne)) read.2 ∙ drop-drop (n * ne) 5 bytes in
      let items : take (count_in bytes * ne) (drop 5 bytes) ≡ xs =
      ap (λ (k : ℕ). take (k * ne) (drop 5 bytes)) (sym count) ∙ ap (take (n * ne)) (sym read.2) ∙ ap (λ x. x.0) same in
      let first : take ns (drop (place m (count_in bytes)) bytes) ≡ cs =
      ap (λ (k : ℕ). take ns (drop (place m k) bytes)) (sym count) ∙ ap (take ns) (sym later) ∙ ap (λ x. x.1) same in
      let second : drop (place m (count_in bytes) + ns) bytes ≡ ss =
      ap (λ (k : ℕ). drop (place m k + ns) bytes) (sym count) ∙ sym (drop-drop ns (place m n) bytes) ∙ ap (drop ns) (sym later) ∙ ap (λ x. x.2) same in
      let whole : reply_in m bytes ≡ record { epoch = h.epoch; count = h.count; items = xs; challenge = cs; response = ss } =
      cc (ap (λ x. x.epoch) read.1, count, items, first, second) in
      reply_by_split ∙ ap (λ r. after r (Ok (reply_in m bytes))) w ∙ ap (λ a. Ok a) whole

-- tokens
pub token_wrong : (bytes : List ℕ) → (length bytes ≡ 132 → ⊥) → read_token bytes ≡ Err WrongLength
unfolding read_token
token_wrong bytes ne = stopped (not (eqb (length bytes) 132), WrongLength) [] (Ok (token_in bytes)) (unequal_stops (length bytes) 132 ne)

pub token_whole : (bytes : List ℕ) → length bytes ≡ 132 → read_token bytes ≡ Ok (token_in bytes)
unfolding read_token
token_whole bytes l = passed ((not (eqb (length bytes) 132), WrongLength) ∷ []) (Ok (token_in bytes)) (equal_passes (length bytes) 132 l, tt)
