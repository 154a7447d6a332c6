-- The writers: what parts that are put one behind the other leave in an outlet.
use Rattle.std.proofs.Common.{◌≡◌, ℕ, ◌*◌, ◌/◌, ◌%◌, ◌<◌, ◌≤◌, Bool, true, false, not, eqb, ltb, ◌⊎◌, List, [], ◌∷◌, ◌++◌, length, drop, Ok, Err, Result, sym, refl, ap, ◌∙◌, ⊎_elim, append-nil, mod-eq_of_lt, arith, length-append}
use Rattle.std.proofs.lemmas.List.{drop_all, take-append-drop}
use Rattle.std.proofs.lemmas.Nat.{div_below}
use Rattle.numbers.specs.declared.writer.Writer.{Writer}
use Rattle.numbers.specs.Writing.{put_so_far, Put}
use Rattle.numbers.proofs.Writing.{whole}
use Rattle.std.proofs.lemmas.Bool.{lt-ltb, le-ltb}
use Rattle.faults.specs.declared.WireFault.{WireFault}
use Rattle.faults.specs.declared.WireFault.TheVariants.{WrongLength, WrongCount, ShortOutlet}
use Rattle.group.specs.Model.{Model}
use Rattle.messages.specs.Answers.{over}
use Rattle.messages.specs.Messages.{Batch, Answers, no_count, head_bytes, place, request_length, reply_length, request_bytes, reply_bytes, writes_request, writes_reply, writes_token, token_input_of, token_input_bytes}
use Rattle.messages.proofs.Ruled.{passed, stops, equal_passes, unequal_stops}

-- all that fits was written
pub over_all : (bytes old : List ℕ) → length old ≤ length bytes → over bytes old ≡ bytes
unfolding over
over_all bytes old h = ap (λ rest. bytes ++ rest) (drop_all (length bytes) old h) ∙ append-nil bytes

-- what a writer that began with nothing leaves in the outlet that it was lent
pub written_over : {a b : Writer} {p : List ℕ} (old : List ℕ) → a.bytes.now ≡ old → put_so_far a ≡ [] → a.len ≡ 0 → Put a b p → b.bytes.now ≡ over p old
unfolding over
written_over {a} {b} {p} old lent none start one =
    let end : b.len ≡ length p = let e = one.len in omega arith in
    sym (take-append-drop b.len b.bytes.now)
    ∙ ap (λ xs. xs ++ drop b.len b.bytes.now) (whole none one)
    ∙ ap (λ xs. p ++ xs) one.rest
    ∙ ap (λ (n : ℕ). p ++ drop n a.bytes.now) end
    ∙ ap (λ xs. p ++ drop (length p) xs) lent

-- the first of two bytes needs no remainder
pub high_byte : (n : ℕ) → n < 65536 → n / 256 % 256 ≡ n / 256
high_byte n h = mod-eq_of_lt (div_below n 256 256 (omega arith) (omega arith))

pub head_length : (kind epoch n : ℕ) → length (head_bytes kind epoch n) ≡ 5
unfolding head_bytes
head_length kind epoch n = refl

module _ {E S K : Type 0} (m : Model E S K) (b : Batch) where
  module _ (room : ℕ) where
    -- the writer's checks, in their order
    abbrev request_count_check : Bool × WireFault
    request_count_check = (no_count b.count, WrongCount)

    abbrev request_items_check : Bool × WireFault
    request_items_check = (not (eqb (length b.items) (b.count * m.element_width)), WrongLength)

    abbrev request_room_check : Bool × WireFault
    request_room_check = (ltb room (request_length m b.count), ShortOutlet)

    abbrev request_written : Result ℕ WireFault
    request_written = Ok (request_length m b.count)

    pub request_uncounted : no_count b.count ≡ true → writes_request m b room ≡ Err WrongCount
    unfolding writes_request
    request_uncounted n = stops [] request_count_check (request_items_check ∷ request_room_check ∷ []) request_written tt n

    pub request_mislong : no_count b.count ≡ false → (length b.items ≡ b.count * m.element_width → ⊥) → writes_request m b room ≡ Err WrongLength
    unfolding writes_request
    request_mislong n l =
        stops (request_count_check ∷ []) request_items_check (request_room_check ∷ []) request_written (n, tt)
        (unequal_stops (length b.items) (b.count * m.element_width) l)

    pub request_narrow : no_count b.count ≡ false → length b.items ≡ b.count * m.element_width → room < request_length m b.count →
        writes_request m b room ≡ Err ShortOutlet
    unfolding writes_request
    request_narrow n l r =
        stops (request_count_check ∷ request_items_check ∷ []) request_room_check [] request_written
        (n, (equal_passes (length b.items) (b.count * m.element_width) l, tt)) (lt-ltb room (request_length m b.count) r)

    pub request_fits : no_count b.count ≡ false → length b.items ≡ b.count * m.element_width → request_length m b.count ≤ room →
        writes_request m b room ≡ Ok (request_length m b.count)
    unfolding writes_request
    request_fits n l r =
        passed (request_count_check ∷ request_items_check ∷ request_room_check ∷ []) request_written
        (n, (equal_passes (length b.items) (b.count * m.element_width) l, (le-ltb room (request_length m b.count) r, tt)))

  pub request_bytes_length : length b.items ≡ b.count * m.element_width → length (request_bytes m b) ≡ request_length m b.count
  unfolding request_bytes request_length place
  request_bytes_length l =
      length-append (head_bytes m.kind b.epoch b.count) b.items ∙ omega (arith, head_length m.kind b.epoch b.count, l)

module _ {E S K : Type 0} (m : Model E S K) (a : Answers) where
  module _ (room : ℕ) where
    abbrev reply_count_check : Bool × WireFault
    reply_count_check = (no_count a.count, WrongCount)

    abbrev reply_items_check : Bool × WireFault
    reply_items_check = (not (eqb (length a.items) (a.count * m.element_width)), WrongLength)

    abbrev challenge_check : Bool × WireFault
    challenge_check = (not (eqb (length a.challenge) m.scalars.width), WrongLength)

    abbrev response_check : Bool × WireFault
    response_check = (not (eqb (length a.response) m.scalars.width), WrongLength)

    abbrev reply_room_check : Bool × WireFault
    reply_room_check = (ltb room (reply_length m a.count), ShortOutlet)

    abbrev reply_written : Result ℕ WireFault
    reply_written = Ok (reply_length m a.count)

    pub reply_uncounted : no_count a.count ≡ true → writes_reply m a room ≡ Err WrongCount
    unfolding writes_reply
    reply_uncounted n = stops [] reply_count_check (reply_items_check ∷ challenge_check ∷ response_check ∷ reply_room_check ∷ []) reply_written tt n

    module _ (n : no_count a.count ≡ false) where
      pub reply_mislong : (length a.items ≡ a.count * m.element_width → ⊥) → writes_reply m a room ≡ Err WrongLength
      unfolding writes_reply
      reply_mislong l =
          stops (reply_count_check ∷ []) reply_items_check (challenge_check ∷ response_check ∷ reply_room_check ∷ []) reply_written (n, tt)
          (unequal_stops (length a.items) (a.count * m.element_width) l)

      module _ (l : length a.items ≡ a.count * m.element_width) where
        items_pass : reply_items_check.0 ≡ false
        items_pass = equal_passes (length a.items) (a.count * m.element_width) l

        pub challenge_mislong : (length a.challenge ≡ m.scalars.width → ⊥) → writes_reply m a room ≡ Err WrongLength
        unfolding writes_reply
        challenge_mislong w =
            stops (reply_count_check ∷ reply_items_check ∷ []) challenge_check (response_check ∷ reply_room_check ∷ []) reply_written (n, (items_pass, tt))
            (unequal_stops (length a.challenge) m.scalars.width w)

        module _ (c : length a.challenge ≡ m.scalars.width) where
          challenge_passes : challenge_check.0 ≡ false
          challenge_passes = equal_passes (length a.challenge) m.scalars.width c

          pub response_mislong : (length a.response ≡ m.scalars.width → ⊥) → writes_reply m a room ≡ Err WrongLength
          unfolding writes_reply
          response_mislong w =
              stops (reply_count_check ∷ reply_items_check ∷ challenge_check ∷ []) response_check (reply_room_check ∷ []) reply_written
              (n, (items_pass, (challenge_passes, tt))) (unequal_stops (length a.response) m.scalars.width w)

          module _ (s : length a.response ≡ m.scalars.width) where
            response_passes : response_check.0 ≡ false
            response_passes = equal_passes (length a.response) m.scalars.width s

            pub reply_narrow : room < reply_length m a.count → writes_reply m a room ≡ Err ShortOutlet
            unfolding writes_reply
            reply_narrow r =
                stops (reply_count_check ∷ reply_items_check ∷ challenge_check ∷ response_check ∷ []) reply_room_check [] reply_written
                (n, (items_pass, (challenge_passes, (response_passes, tt)))) (lt-ltb room (reply_length m a.count) r)

            pub reply_fits : reply_length m a.count ≤ room → writes_reply m a room ≡ Ok (reply_length m a.count)
            unfolding writes_reply
            reply_fits r =
                passed (reply_count_check ∷ reply_items_check ∷ challenge_check ∷ response_check ∷ reply_room_check ∷ []) reply_written
                (n, (items_pass, (challenge_passes, (response_passes, (le-ltb room (reply_length m a.count) r, tt)))))

  pub reply_bytes_length : length a.items ≡ a.count * m.element_width → length a.challenge ≡ m.scalars.width → length a.response ≡ m.scalars.width →
      length (reply_bytes m a) ≡ reply_length m a.count
  unfolding reply_bytes reply_length place
  reply_bytes_length l c s =
      let head = head_bytes m.kind a.epoch a.count in
      length-append head (a.items ++ (a.challenge ++ a.response)) ∙
      omega (arith, head_length m.kind a.epoch a.count, length-append a.items (a.challenge ++ a.response), length-append a.challenge a.response)

-- the input of a token
pub input_length : (kind epoch : ℕ) (nonce context key_id : List ℕ) → length nonce ≡ 32 → length context ≡ 32 → length key_id ≡ 32 →
    length (token_input_bytes kind epoch nonce context key_id) ≡ 100
unfolding token_input_bytes
input_length kind epoch nonce context key_id n c k = omega (arith, length-append nonce (context ++ key_id), length-append context key_id)

pub input_whole : (kind epoch : ℕ) (nonce context key_id : List ℕ) → length nonce ≡ 32 → length context ≡ 32 →
    Ok (token_input_bytes kind epoch nonce context key_id) ≡ token_input_of kind epoch nonce context key_id
unfolding token_input_of
input_whole kind epoch nonce context key_id n c =
    sym (passed ((not (eqb (length nonce) 32), WrongLength) ∷ (not (eqb (length context) 32), WrongLength) ∷ [])
    (Ok (token_input_bytes kind epoch nonce context key_id))
    (equal_passes (length nonce) 32 n, (equal_passes (length context) 32 c, tt)))

pub input_refused : (kind epoch : ℕ) (nonce context key_id : List ℕ) → (length nonce ≡ 32 → ⊥) ⊎ ((length nonce ≡ 32) × (length context ≡ 32 → ⊥)) →
    Err WrongLength ≡ token_input_of kind epoch nonce context key_id
unfolding token_input_of
input_refused kind epoch nonce context key_id h =
    let next = Ok (token_input_bytes kind epoch nonce context key_id) in
    let long : Bool × WireFault = (not (eqb (length nonce) 32), WrongLength) in
    let wide : Bool × WireFault = (not (eqb (length context) 32), WrongLength) in
    ⊎_elim
    (λ n. sym (stops [] long (wide ∷ []) next tt (unequal_stops (length nonce) 32 n)))
    (λ c. sym (stops (long ∷ []) wide [] next (equal_passes (length nonce) 32 c.0, tt) (unequal_stops (length context) 32 c.1))) h

-- a token
pub token_narrow : (room : ℕ) → room < 132 → writes_token room ≡ Err ShortOutlet
unfolding writes_token
token_narrow room h = stops [] (ltb room 132, ShortOutlet) [] (Ok 132) tt (lt-ltb room 132 h)

pub token_fits : (room : ℕ) → 132 ≤ room → writes_token room ≡ Ok 132
unfolding writes_token
token_fits room h = passed ((ltb room 132, ShortOutlet) ∷ []) (Ok 132) (le-ltb room 132 h, tt)
