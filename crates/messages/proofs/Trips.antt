-- Readers after writers and writers after readers, on bytes.
use Rattle.std.proofs.Common.{◌≡◌, ℕ, ◌+◌, ◌*◌, ◌/◌, ◌%◌, ◌<◌, ◌≤◌, Bool, not, eqb, List, [], ◌∷◌, ◌++◌, length, take, drop, Ok, sym, ap, ◌∙◌, subst, mod-eq_of_lt, arith, length-append, length-drop, drop-drop, take_at, drop_at}
use native.Mathlib.Nat.{mod-add-div}
use Rattle.std.proofs.lemmas.List.{take-append-drop, length-take-le}
use Rattle.std.proofs.lemmas.Bool.{le-ltb}
use Rattle.std.proofs.lemmas.Nat.{div-mul-add, mod-mul-add}
use Rattle.faults.specs.declared.WireFault.{WireFault}
use Rattle.faults.specs.declared.WireFault.TheVariants.{WrongLength}
use Rattle.numbers.specs.Bytes.{two_bytes}
use Rattle.group.specs.Model.{Model, Bytes}
use Rattle.messages.specs.Answers.{ruled}
use Rattle.messages.specs.Messages.{Batch, Answers, kind_in, epoch_in, count_in, header_of, front_checks, place, request_length, reply_length, head_bytes, request_bytes, reply_bytes, read_request, read_reply}
use Rattle.messages.proofs.Ruled.{passed, passes, equal_passes, passed_equal, same_answer}
use Rattle.messages.proofs.Reading.{header_whole, counted, counts}
use Rattle.messages.proofs.Writing.{high_byte}

-- a number and its two bytes
pub two_read : (n : ℕ) → n < 65536 → n / 256 % 256 * 256 + n % 256 ≡ n
two_read n h = ap (λ (x : ℕ). x * 256 + n % 256) (high_byte n h) ∙ omega (arith, mod-add-div n 256)

pub two_written : (a b : ℕ) → a < 256 → b < 256 → two_bytes (a * 256 + b) ≡ a ∷ b ∷ []
two_written a b ha hb =
    ap (λ (x : ℕ). x % 256 ∷ (a * 256 + b) % 256 ∷ []) (div-mul-add a 256 b hb) ∙ ap (λ (x : ℕ). x ∷ (a * 256 + b) % 256 ∷ []) (mod-eq_of_lt ha) ∙
    ap (λ (x : ℕ). a ∷ x ∷ []) (mod-mul-add a 256 b hb)

-- a head that was written is read
pub header_again : (kind epoch n : ℕ) (rest : List ℕ) → kind < 65536 → epoch < 65536 →
    header_of (head_bytes kind epoch n ++ rest) ≡ Ok (record { kind = kind; epoch = epoch; count = n }, rest)
unfolding head_bytes
header_again kind epoch n rest k e =
    let bytes = two_bytes kind ++ (two_bytes epoch ++ (n ∷ rest)) in
    header_whole bytes (omega arith) ∙ ap (λ (x : ℕ). Ok (record { kind = x; epoch = epoch_in bytes; count = n }, rest)) (two_read kind k) ∙
    ap (λ (x : ℕ). Ok (record { kind = kind; epoch = x; count = n }, rest)) (two_read epoch e)

-- bytes are their head and the rest
pub headed : (bytes : List ℕ) → Bytes bytes → 5 ≤ length bytes → bytes ≡ head_bytes (kind_in bytes) (epoch_in bytes) (count_in bytes) ++ drop 5 bytes
unfolding head_bytes
headed [] b h = absurd (omega arith)
headed (k ∷ []) b h = absurd (omega arith)
headed (k ∷ l ∷ []) b h = absurd (omega arith)
headed (k ∷ l ∷ e ∷ []) b h = absurd (omega arith)
headed (k ∷ l ∷ e ∷ f ∷ []) b h = absurd (omega arith)
headed (k ∷ l ∷ e ∷ f ∷ n ∷ rest) b h =
    sym (ap (λ xs. xs ++ (two_bytes (e * 256 + f) ++ (n ∷ rest))) (two_written k l b.0 b.1.0) ∙
    ap (λ xs. k ∷ l ∷ (xs ++ (n ∷ rest))) (two_written e f b.1.1.0 b.1.1.1.0))

two_small : (a b : ℕ) → a < 256 → b < 256 → a * 256 + b < 65536
two_small a b ha hb = omega arith

pub front_small : (bytes : List ℕ) → Bytes bytes → 5 ≤ length bytes → (kind_in bytes < 65536) × (epoch_in bytes < 65536)
front_small [] b h = absurd (omega arith)
front_small (k ∷ []) b h = absurd (omega arith)
front_small (k ∷ l ∷ []) b h = absurd (omega arith)
front_small (k ∷ l ∷ e ∷ []) b h = absurd (omega arith)
front_small (k ∷ l ∷ e ∷ f ∷ []) b h = absurd (omega arith)
front_small (k ∷ l ∷ e ∷ f ∷ n ∷ rest) b h = (two_small k l b.0 b.1.0, two_small e f b.1.1.0 b.1.1.1.0)

module _ {E S K : Type 0} (m : Model E S K) where
  -- a request that was written is read
  pub request_again : (b : Batch) → b.epoch < 65536 → 1 ≤ b.count → b.count ≤ 16 → length b.items ≡ b.count * m.element_width →
      read_request m (request_bytes m b) ≡ Ok b
  unfolding read_request request_bytes head_bytes request_length place
  request_again b e l h long =
      let bytes = two_bytes m.kind ++ (two_bytes b.epoch ++ (b.count ∷ b.items)) in
      let found : Batch = record { epoch = epoch_in bytes; count = b.count; items = b.items } in
      let fits : Bool × WireFault = (not (eqb (length bytes) (5 + b.count * m.element_width)), WrongLength) in
      passed (front_checks m bytes) (ruled (fits ∷ []) (Ok found))
      (le-ltb (length bytes) 5 (omega arith), (equal_passes (kind_in bytes) m.kind (two_read m.kind m.kind_fits), (counted b.count l h, tt))) ∙
      passed (fits ∷ []) (Ok found) (equal_passes (length bytes) (5 + b.count * m.element_width) (omega arith), tt) ∙
      ap (λ (x : ℕ). Ok (record { epoch = x; count = b.count; items = b.items })) (two_read b.epoch e)

  -- what a request that is read holds
  pub request_told : (bytes : List ℕ) (b : Batch) → read_request m bytes ≡ Ok b →
      (b ≡ record { epoch = epoch_in bytes; count = count_in bytes; items = drop 5 bytes }) × (kind_in bytes ≡ m.kind) ×
      (1 ≤ b.count) × (b.count ≤ 16) × (length bytes ≡ place m b.count) × (length b.items ≡ b.count * m.element_width)
  unfolding read_request request_length place
  request_told bytes b e =
      let found : Batch = record { epoch = epoch_in bytes; count = count_in bytes; items = drop 5 bytes } in
      let fits : Bool × WireFault = (not (eqb (length bytes) (5 + count_in bytes * m.element_width)), WrongLength) in
      let front = passes (front_checks m bytes) (ruled (fits ∷ []) (Ok found)) b e in
      let whole = passes (fits ∷ []) (Ok found) b front.1 in
      let same = sym (same_answer found b whole.1) in
      let count : b.count ≡ count_in bytes = ap (λ x. x.count) same in
      let items : b.items ≡ drop 5 bytes = ap (λ x. x.items) same in
      let sized = counts (count_in bytes) front.0.1.1.0 in
      let long = passed_equal (length bytes) (5 + count_in bytes * m.element_width) whole.0.0 in
      let wide = ap (λ (n : ℕ). n * m.element_width) count in (
        same,
        passed_equal (kind_in bytes) m.kind front.0.1.0,
        omega (arith, sized.0),
        omega (arith, sized.1),
        omega arith,
        ap length items ∙ length-drop 5 bytes ∙ omega arith,
      )

  -- and it was written from that
  pub request_only : (bytes : List ℕ) → Bytes bytes → (b : Batch) → read_request m bytes ≡ Ok b → (bytes ≡ request_bytes m b) × (b.epoch < 65536)
  unfolding request_bytes place
  request_only bytes small b e =
      let told = request_told bytes b e in
      let long : 5 ≤ length bytes = omega (arith, told.4) in
      let epoch : b.epoch ≡ epoch_in bytes = ap (λ x. x.epoch) told.0 in
      let count : b.count ≡ count_in bytes = ap (λ x. x.count) told.0 in
      let items : b.items ≡ drop 5 bytes = ap (λ x. x.items) told.0 in
      (headed bytes small long ∙ cc (told.1, epoch, count, items), subst (λ (n : ℕ). n < 65536) (sym epoch) (front_small bytes small long).1)

  -- the same of a reply
  pub reply_again : (a : Answers) → a.epoch < 65536 → 1 ≤ a.count → a.count ≤ 16 → length a.items ≡ a.count * m.element_width →
      length a.challenge ≡ m.scalars.width → length a.response ≡ m.scalars.width → read_reply m (reply_bytes m a) ≡ Ok a
  unfolding read_reply reply_bytes head_bytes reply_length place
  reply_again a e l h long wc ws =
      let ne = a.count * m.element_width in
      let ns = m.scalars.width in
      let rest = a.items ++ (a.challenge ++ a.response) in
      let bytes = two_bytes m.kind ++ (two_bytes a.epoch ++ (a.count ∷ rest)) in
      let found : Answers =
      record { epoch = epoch_in bytes; count = a.count; items = take ne rest; challenge = take ns (drop (5 + ne) bytes); response = drop (5 + ne + ns) bytes } in
      let fits : Bool × WireFault = (not (eqb (length bytes) (5 + ne + 2 * ns)), WrongLength) in
      let whole : length bytes ≡ 5 + ne + 2 * ns = omega (arith, length-append a.items (a.challenge ++ a.response), length-append a.challenge a.response) in
      let later : drop (5 + ne) bytes ≡ a.challenge ++ a.response =
      sym (drop-drop ne 5 bytes) ∙ drop_at a.items (a.challenge ++ a.response) ne long in
      let items : take ne rest ≡ a.items = take_at a.items (a.challenge ++ a.response) ne long in
      let first : take ns (drop (5 + ne) bytes) ≡ a.challenge = ap (take ns) later ∙ take_at a.challenge a.response ns wc in
      let second : drop (5 + ne + ns) bytes ≡ a.response = sym (drop-drop ns (5 + ne) bytes) ∙ ap (drop ns) later ∙ drop_at a.challenge a.response ns wc in
      passed (front_checks m bytes) (ruled (fits ∷ []) (Ok found))
      (le-ltb (length bytes) 5 (omega arith), (equal_passes (kind_in bytes) m.kind (two_read m.kind m.kind_fits), (counted a.count l h, tt))) ∙
      passed (fits ∷ []) (Ok found) (equal_passes (length bytes) (5 + ne + 2 * ns) whole, tt) ∙
      ap (λ (x : ℕ). Ok (record { epoch = x; count = a.count; items = take ne rest; challenge = take ns (drop (5 + ne) bytes); response = drop (5 + ne + ns) bytes })) (two_read a.epoch e) ∙
      ap (λ x. Ok (record { epoch = a.epoch; count = a.count; items = x; challenge = take ns (drop (5 + ne) bytes); response = drop (5 + ne + ns) bytes })) items ∙
      ap (λ x. Ok (record { epoch = a.epoch; count = a.count; items = a.items; challenge = x; response = drop (5 + ne + ns) bytes })) first ∙
      ap (λ x. Ok (record { epoch = a.epoch; count = a.count; items = a.items; challenge = a.challenge; response = x })) second

  -- what a reply that is read holds
  pub reply_told : (bytes : List ℕ) (a : Answers) → read_reply m bytes ≡ Ok a →
      (kind_in bytes ≡ m.kind) × (a.epoch ≡ epoch_in bytes) × (a.count ≡ count_in bytes) × (1 ≤ a.count) × (a.count ≤ 16) ×
      (length bytes ≡ place m a.count + 2 * m.scalars.width) × (drop 5 bytes ≡ a.items ++ (a.challenge ++ a.response)) × (length a.items ≡ a.count * m.element_width)
  unfolding read_reply reply_length place
  reply_told bytes a e =
      let n = count_in bytes in
      let ne = n * m.element_width in
      let ns = m.scalars.width in
      let found : Answers =
      record { epoch = epoch_in bytes; count = n; items = take ne (drop 5 bytes); challenge = take ns (drop (5 + ne) bytes); response = drop (5 + ne + ns) bytes } in
      let fits : Bool × WireFault = (not (eqb (length bytes) (5 + ne + 2 * ns)), WrongLength) in
      let front = passes (front_checks m bytes) (ruled (fits ∷ []) (Ok found)) a e in
      let whole = passes (fits ∷ []) (Ok found) a front.1 in
      let same = sym (same_answer found a whole.1) in
      let count : a.count ≡ n = ap (λ x. x.count) same in
      let sized = counts n front.0.1.1.0 in
      let long = passed_equal (length bytes) (5 + ne + 2 * ns) whole.0.0 in
      let wide = ap (λ (k : ℕ). k * m.element_width) count in
      let later : drop ne (drop 5 bytes) ≡ take ns (drop (5 + ne) bytes) ++ drop (5 + ne + ns) bytes =
      drop-drop ne 5 bytes ∙ sym (take-append-drop ns (drop (5 + ne) bytes)) ∙ ap (λ xs. take ns (drop (5 + ne) bytes) ++ xs) (drop-drop ns (5 + ne) bytes) in
      let rest : drop 5 bytes ≡ found.items ++ (found.challenge ++ found.response) =
      sym (take-append-drop ne (drop 5 bytes)) ∙ ap (λ xs. take ne (drop 5 bytes) ++ xs) later in
      let room : ne ≤ length (drop 5 bytes) = omega (arith, length-drop 5 bytes) in (
        passed_equal (kind_in bytes) m.kind front.0.1.0,
        ap (λ x. x.epoch) same,
        count,
        omega (arith, sized.0),
        omega (arith, sized.1),
        omega arith,
        rest ∙ ap (λ x. x.items ++ (x.challenge ++ x.response)) (sym same),
        ap (λ x. length x.items) same ∙ length-take-le ne (drop 5 bytes) room ∙ sym wide,
      )

  pub reply_only : (bytes : List ℕ) → Bytes bytes → (a : Answers) → read_reply m bytes ≡ Ok a → (bytes ≡ reply_bytes m a) × (a.epoch < 65536)
  unfolding reply_bytes place
  reply_only bytes small a e =
      let told = reply_told bytes a e in
      let long : 5 ≤ length bytes = omega (arith, told.5) in (
        headed bytes small long ∙ ap (λ xs. head_bytes (kind_in bytes) (epoch_in bytes) (count_in bytes) ++ xs) told.6 ∙ cc (told.0, told.1, told.2),
        subst (λ (n : ℕ). n < 65536) (sym told.1) (front_small bytes small long).1,
      )
