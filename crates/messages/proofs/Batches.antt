-- Batches of elements: what is written is read, what is read was written, and where each code stands.
use Rattle.std.proofs.Common.{◌≡◌, ℕ, zero, suc, ◌+◌, ◌*◌, ◌/◌, ◌<◌, cond, List, [], ◌∷◌, ◌++◌, length, get_or, take, drop, Some, None, Ok, Err, Option, Result, sym, refl, ap, ◌∙◌, append_assoc, append-nil, suc-mul, add_comm, zero-mul, arith, length-append, length-drop, drop-drop, take_at, drop_at}
use Rattle.std.proofs.lemmas.List.{take-append-drop, drop_all}
use Rattle.std.proofs.lemmas.Bool.{lt-ltb}
use Rattle.faults.specs.declared.WireFault.{WireFault}
use Rattle.scalar.specs.Scalars.{scalar_code, scalar_of}
use Rattle.scalar.proofs.Codes.{code_length, code_read, read_code}
use Rattle.group.specs.Model.{Model, Bytes}
use Rattle.group.specs.Weighted.{put, led, elements}
use Rattle.group.specs.Theorems.{row}
use Rattle.group.proofs.Weighing.{row_length, elements_row, length_quotient}
use Rattle.messages.specs.Messages.{Batch, Answers, batch_of, answers_of, read_request, read_reply, reply_bytes, written_request, written_reply, request_length, reply_length, header_of, split_reply, place, code_in, item_at}
use Rattle.messages.specs.Laws.{batch_from, request_from, request_batch, answers_from, reply_from, reply_batch, Sized, RoundTrip, OneEncoding, Placed}
use Rattle.messages.proofs.Reading.{split_whole}
use Rattle.messages.proofs.Writing.{request_bytes_length, reply_bytes_length}
use Rattle.messages.proofs.Trips.{header_again, request_again, request_told, request_only, reply_again, reply_told, reply_only}

none_some : {X Y : Type 0} {x : X} → ◌≡◌ {A = Option X} None (Some x) → Y
none_some e = let z : ◌≡◌ {A = ℕ} 0 1 = cc in absurd (omega arith)

err_ok : {X F Y : Type 0} {x : X} {f : F} → ◌≡◌ {A = Result X F} (Err f) (Ok x) → Y
err_ok e = let z : ◌≡◌ {A = ℕ} 0 1 = cc in absurd (omega arith)

some_same : {X : Type 0} (x y : X) → Some x ≡ Some y → x ≡ y
some_same x y e = cc

ok_same : {X F : Type 0} (x y : X) → ◌≡◌ {A = Result X F} (Ok x) (Ok y) → x ≡ y
ok_same x y e = cc

same_answers : (a b : Answers) → a.epoch ≡ b.epoch → a.count ≡ b.count → a.items ≡ b.items → a.challenge ≡ b.challenge → a.response ≡ b.response → a ≡ b
same_answers a b e n i c s =
    ap (λ (x : ℕ). record { epoch = x; count = a.count; items = a.items; challenge = a.challenge; response = a.response }) e ∙
    ap (λ (x : ℕ). record { epoch = b.epoch; count = x; items = a.items; challenge = a.challenge; response = a.response }) n ∙
    ap (λ x. record { epoch = b.epoch; count = b.count; items = x; challenge = a.challenge; response = a.response }) i ∙
    ap (λ x. record { epoch = b.epoch; count = b.count; items = b.items; challenge = x; response = a.response }) c ∙
    ap (λ x. record { epoch = b.epoch; count = b.count; items = b.items; challenge = b.challenge; response = x }) s

module _ {E S K : Type 0} (m : Model E S K) where
  -- codes that are all elements are the row of these
  put_parts : (p : E) (r : Result (List E) ℕ) (bs : List E) → put p r ≡ Ok bs → (ps : List E) × (r ≡ Ok ps) × (bs ≡ p ∷ ps)
  put_parts p (Ok ps) bs e = (ps, refl, sym (ok_same (p ∷ ps) bs e))
  put_parts p (Err i) bs e = err_ok e

  led_parts : (i : ℕ) (o : Option E) (r : Result (List E) ℕ) (bs : List E) → led i o r ≡ Ok bs → (p : E) × (ps : List E) × (o ≡ Some p) × (r ≡ Ok ps) × (bs ≡ p ∷ ps)
  led_parts i None r bs e = err_ok e
  led_parts i (Some p) r bs e = let more = put_parts p r bs e in (p, more.0, refl, more.1, more.2)

  pub elements_only : (i n : ℕ) (codes : List ℕ) (bs : List E) → length codes ≡ n * m.element_width → elements m i n codes ≡ Ok bs →
      (codes ≡ row m bs) × (length bs ≡ n)
  elements_only i zero codes bs l e =
      let none = zero-mul m.element_width in
      let same : [] ≡ bs = ok_same [] bs e in
      (drop_all 0 codes (omega arith) ∙ ap (row m) same, sym (ap length same))
  elements_only i (suc n) codes bs l e =
      let w = m.element_width in
      let got = led_parts i (m.element (take w codes)) (elements m (suc i) n (drop w codes)) bs e in
      let p = got.0 in
      let ps = got.1 in
      let rest = elements_only (suc i) n (drop w codes) ps (omega (arith, length-drop w codes, suc-mul n w)) got.3 in (
        sym (take-append-drop w codes) ∙ ap (λ xs. xs ++ drop w codes) (sym (m.encoded (take w codes) p got.2)) ∙ ap (λ xs. m.code p ++ xs) rest.0 ∙
            ap (row m) (sym got.4),
        ap length got.4 ∙ ap suc rest.1,
      )

  -- requests
  from_batch : (epoch : ℕ) (r : Result (List E) ℕ) (e : ℕ) (bs : List E) → batch_from m epoch r ≡ Some (e, bs) → (epoch ≡ e) × (r ≡ Ok bs)
  from_batch epoch (Ok cs) e bs h = let same = some_same (epoch, cs) (e, bs) h in (ap (λ x. x.0) same, ap (λ x. Ok x.1) same)
  from_batch epoch (Err i) e bs h = none_some h

  from_request : (r : Result Batch WireFault) (e : ℕ) (bs : List E) → request_from m r ≡ Some (e, bs) →
      (b : Batch) × (r ≡ Ok b) × (b.epoch ≡ e) × (elements m 1 b.count b.items ≡ Ok bs)
  from_request (Ok b) e bs h = let parts = from_batch b.epoch (elements m 1 b.count b.items) e bs h in (b, refl, parts.0, parts.1)
  from_request (Err f) e bs h = none_some h

  -- a request of elements, as its reader and its length tell it
  pub written_request_read : (epoch : ℕ) (bs : List E) → Sized epoch bs → read_request m (written_request m epoch bs) ≡ Ok (batch_of m epoch bs)
  unfolding written_request
  written_request_read epoch bs z = request_again m (batch_of m epoch bs) z.0 z.1 z.2 (row_length m bs)

  pub written_request_length : (epoch : ℕ) (bs : List E) → length (written_request m epoch bs) ≡ request_length m (length bs)
  unfolding written_request
  written_request_length epoch bs = request_bytes_length m (batch_of m epoch bs) (row_length m bs)

  request_trip : (epoch : ℕ) (bs : List E) → Sized epoch bs → request_batch m (written_request m epoch bs) ≡ Some (epoch, bs)
  unfolding request_batch
  request_trip epoch bs z =
      ap (request_from m) (written_request_read epoch bs z) ∙ ap (batch_from m epoch) (elements_row m 1 bs)

  -- the batch that a request is read as
  request_parts : (bytes : List ℕ) (epoch : ℕ) (bs : List E) → request_batch m bytes ≡ Some (epoch, bs) → read_request m bytes ≡ Ok (batch_of m epoch bs)
  unfolding request_batch
  request_parts bytes epoch bs e =
      let got = from_request (read_request m bytes) epoch bs e in
      let b = got.0 in
      let told = request_told m bytes b got.1 in
      let codes = elements_only 1 b.count b.items bs told.5 got.3 in
      let same : b ≡ batch_of m epoch bs = cc (got.2, codes.0, codes.1) in
      got.1 ∙ ap (λ x. Ok x) same

  request_written : (bytes : List ℕ) → Bytes bytes → (epoch : ℕ) (bs : List E) → request_batch m bytes ≡ Some (epoch, bs) →
      (bytes ≡ written_request m epoch bs) × Sized epoch bs
  unfolding written_request
  request_written bytes small epoch bs e =
      let read = request_parts bytes epoch bs e in
      let told = request_told m bytes (batch_of m epoch bs) read in
      let only = request_only m bytes small (batch_of m epoch bs) read in
      (only.0, (only.1, told.2, told.3))

  -- replies
  from_answers : (epoch : ℕ) (r : Result (List E) ℕ) (oc os : Option S) (e : ℕ) (es : List E) (c s : S) →
      answers_from m epoch r oc os ≡ Some (e, es, c, s) → (epoch ≡ e) × (r ≡ Ok es) × (oc ≡ Some c) × (os ≡ Some s)
  from_answers epoch (Ok fs) (Some d) (Some t) e es c s h =
      let same = some_same (epoch, fs, d, t) (e, es, c, s) h in
      (ap (λ x. x.0) same, ap (λ x. Ok x.1) same, ap (λ x. Some x.2) same, ap (λ x. Some x.3) same)
  from_answers epoch (Ok fs) (Some d) None e es c s h = none_some h
  from_answers epoch (Ok fs) None os e es c s h = none_some h
  from_answers epoch (Err i) oc os e es c s h = none_some h

  from_reply : (r : Result Answers WireFault) (e : ℕ) (es : List E) (c s : S) → reply_from m r ≡ Some (e, es, c, s) →
      (a : Answers) × (r ≡ Ok a) × (a.epoch ≡ e) × (elements m 1 a.count a.items ≡ Ok es) × (scalar_of m.scalars a.challenge ≡ Some c) ×
      (scalar_of m.scalars a.response ≡ Some s)
  from_reply (Ok a) e es c s h =
      let parts = from_answers a.epoch (elements m 1 a.count a.items) (scalar_of m.scalars a.challenge) (scalar_of m.scalars a.response) e es c s h in
      (a, refl, parts.0, parts.1, parts.2, parts.3)
  from_reply (Err f) e es c s h = none_some h

  -- a reply of elements, as its readers and its length tell it
  pub written_reply_read : (epoch : ℕ) (es : List E) (c s : S) → Sized epoch es → read_reply m (written_reply m epoch es c s) ≡ Ok (answers_of m epoch es c s)
  unfolding written_reply
  written_reply_read epoch es c s z =
      reply_again m (answers_of m epoch es c s) z.0 z.1 z.2 (row_length m es) (code_length m.scalars c) (code_length m.scalars s)

  pub written_reply_length : (epoch : ℕ) (es : List E) (c s : S) → length (written_reply m epoch es c s) ≡ reply_length m (length es)
  unfolding written_reply
  written_reply_length epoch es c s =
      reply_bytes_length m (answers_of m epoch es c s) (row_length m es) (code_length m.scalars c) (code_length m.scalars s)

  pub written_reply_header : (epoch : ℕ) (es : List E) (c s : S) → epoch < 65536 →
      header_of (written_reply m epoch es c s) ≡
      Ok (record { kind = m.kind; epoch = epoch; count = length es }, row m es ++ (scalar_code m.scalars c ++ scalar_code m.scalars s))
  unfolding written_reply reply_bytes
  written_reply_header epoch es c s h = header_again m.kind epoch (length es) (row m es ++ (scalar_code m.scalars c ++ scalar_code m.scalars s)) m.kind_fits h

  pub written_reply_split : (es : List E) (c s : S) →
      split_reply m (length es) (row m es ++ (scalar_code m.scalars c ++ scalar_code m.scalars s)) ≡ Ok (row m es, scalar_code m.scalars c, scalar_code m.scalars s)
  written_reply_split es c s =
      let n = length es in
      let w = m.element_width in
      let cs = scalar_code m.scalars c in
      let ss = scalar_code m.scalars s in
      let rest = row m es ++ (cs ++ ss) in
      let wide = row_length m es in
      let ns = m.scalars.width in
      let long : length rest ≡ n * w + 2 * ns =
      length-append (row m es) (cs ++ ss) ∙ omega (arith, wide, length-append cs ss, code_length m.scalars c, code_length m.scalars s) in
      let later : drop (n * w) rest ≡ cs ++ ss = drop_at (row m es) (cs ++ ss) (n * w) wide in
      split_whole m n rest long ∙
      ap (λ xs. Ok (xs, take ns (drop (n * w) rest), drop ns (drop (n * w) rest))) (take_at (row m es) (cs ++ ss) (n * w) wide) ∙
      ap (λ xs. Ok (row m es, take ns xs, drop ns xs)) later ∙
      ap (λ xs. Ok (row m es, xs, drop ns (cs ++ ss))) (take_at cs ss ns (code_length m.scalars c)) ∙
      ap (λ xs. Ok (row m es, cs, xs)) (drop_at cs ss ns (code_length m.scalars c))

  reply_trip : (epoch : ℕ) (es : List E) (c s : S) → Sized epoch es → reply_batch m (written_reply m epoch es c s) ≡ Some (epoch, es, c, s)
  unfolding reply_batch
  reply_trip epoch es c s z =
      ap (reply_from m) (written_reply_read epoch es c s z) ∙
      ap (λ r. answers_from m epoch r (scalar_of m.scalars (scalar_code m.scalars c)) (scalar_of m.scalars (scalar_code m.scalars s))) (elements_row m 1 es) ∙
      ap (λ o. answers_from m epoch (Ok es) o (scalar_of m.scalars (scalar_code m.scalars s))) (code_read m.scalars c) ∙
      ap (λ o. answers_from m epoch (Ok es) (Some c) o) (code_read m.scalars s)

  reply_parts : (bytes : List ℕ) (epoch : ℕ) (es : List E) (c s : S) → reply_batch m bytes ≡ Some (epoch, es, c, s) → read_reply m bytes ≡ Ok (answers_of m epoch es c s)
  unfolding reply_batch
  reply_parts bytes epoch es c s e =
      let got = from_reply (read_reply m bytes) epoch es c s e in
      let a = got.0 in
      let told = reply_told m bytes a got.1 in
      let codes = elements_only 1 a.count a.items es told.7 got.3 in
      let same : a ≡ answers_of m epoch es c s =
      same_answers a (answers_of m epoch es c s) got.2 (sym codes.1) codes.0
      (read_code m.scalars a.challenge c got.4) (read_code m.scalars a.response s got.5) in
      got.1 ∙ ap (λ x. Ok x) same

  reply_written : (bytes : List ℕ) → Bytes bytes → (epoch : ℕ) (es : List E) (c s : S) → reply_batch m bytes ≡ Some (epoch, es, c, s) →
      (bytes ≡ written_reply m epoch es c s) × Sized epoch es
  unfolding written_reply
  reply_written bytes small epoch es c s e =
      let read = reply_parts bytes epoch es c s e in
      let told = reply_told m bytes (answers_of m epoch es c s) read in
      let only = reply_only m bytes small (answers_of m epoch es c s) read in
      (only.0, (only.1, told.3, told.4))

  -- the code of an item in a row
  pub row_item : (bs : List E) (i : ℕ) (d : E) (tail : List ℕ) → i < length bs → take m.element_width (drop (i * m.element_width) (row m bs ++ tail)) ≡ m.code (get_or bs i d)
  row_item [] i d tail h = absurd (omega arith)
  row_item (b ∷ bs) zero d tail h =
      let w = m.element_width in
      ap (λ (n : ℕ). take w (drop n ((m.code b ++ row m bs) ++ tail))) (zero-mul w) ∙ ap (take w) (append_assoc (m.code b) (row m bs) tail) ∙
      take_at (m.code b) (row m bs ++ tail) w (m.coded b)
  row_item (b ∷ bs) (suc i) d tail h =
      let w = m.element_width in
      let past : drop w ((m.code b ++ row m bs) ++ tail) ≡ row m bs ++ tail =
      ap (drop w) (append_assoc (m.code b) (row m bs) tail) ∙ drop_at (m.code b) (row m bs ++ tail) w (m.coded b) in
      ap (λ (n : ℕ). take w (drop n ((m.code b ++ row m bs) ++ tail))) (suc-mul i w ∙ add_comm (i * w) w) ∙
      ap (take w) (sym (drop-drop (i * w) w ((m.code b ++ row m bs) ++ tail))) ∙ ap (λ xs. take w (drop (i * w) xs)) past ∙ row_item bs i d tail (omega arith)

  -- where it stands in bytes that go on so after five
  code_stands : (bytes : List ℕ) (bs : List E) (tail : List ℕ) → drop 5 bytes ≡ row m bs ++ tail → (i : ℕ) (d : E) → i < length bs →
      (code_in m bytes i ≡ m.code (get_or bs i d)) × (m.element (code_in m bytes i) ≡ Some (get_or bs i d))
  unfolding code_in place
  code_stands bytes bs tail e i d h =
      let w = m.element_width in
      let here : take w (drop (5 + i * w) bytes) ≡ m.code (get_or bs i d) =
      ap (take w) (sym (drop-drop (i * w) 5 bytes)) ∙ ap (λ xs. take w (drop (i * w) xs)) e ∙ row_item bs i d tail h in
      (here, ap m.element here ∙ m.decoded (get_or bs i d))

  items_at : (bytes : List ℕ) (i n : ℕ) → length (drop 5 bytes) ≡ n * m.element_width → i < n → item_at m (drop 5 bytes) i ≡ Some (code_in m bytes i)
  unfolding item_at code_in place
  items_at bytes i n l h =
      let w = m.element_width in
      let some = m.element_some in
      let quotient = length_quotient (length (drop 5 bytes)) n w (omega arith) l in
      ap (λ b. cond b (Some (take w (drop (i * w) (drop 5 bytes)))) None) (lt-ltb i (length (drop 5 bytes) / w) (omega (arith, quotient.0))) ∙
      ap (λ xs. Some (take w xs)) (drop-drop (i * w) 5 bytes)

  request_placed : (bytes : List ℕ) (epoch : ℕ) (bs : List E) → request_batch m bytes ≡ Some (epoch, bs) → (i : ℕ) (d : E) → i < length bs →
      (code_in m bytes i ≡ m.code (get_or bs i d)) × (m.element (code_in m bytes i) ≡ Some (get_or bs i d)) × (item_at m (drop 5 bytes) i ≡ Some (code_in m bytes i))
  request_placed bytes epoch bs e i d h =
      let told = request_told m bytes (batch_of m epoch bs) (request_parts bytes epoch bs e) in
      let items : row m bs ≡ drop 5 bytes = ap (λ x. x.items) told.0 in
      let stands = code_stands bytes bs [] (sym items ∙ sym (append-nil (row m bs))) i d h in
      (stands.0, stands.1, items_at bytes i (length bs) (ap length (sym items) ∙ told.5) h)

  request_ends : (bytes : List ℕ) (epoch : ℕ) (bs : List E) → request_batch m bytes ≡ Some (epoch, bs) → length bytes ≡ place m (length bs)
  request_ends bytes epoch bs e = (request_told m bytes (batch_of m epoch bs) (request_parts bytes epoch bs e)).4

  reply_placed : (bytes : List ℕ) (epoch : ℕ) (es : List E) (c s : S) → reply_batch m bytes ≡ Some (epoch, es, c, s) → (i : ℕ) (d : E) → i < length es →
      (code_in m bytes i ≡ m.code (get_or es i d)) × (m.element (code_in m bytes i) ≡ Some (get_or es i d))
  reply_placed bytes epoch es c s e i d h =
      let told = reply_told m bytes (answers_of m epoch es c s) (reply_parts bytes epoch es c s e) in
      code_stands bytes es (scalar_code m.scalars c ++ scalar_code m.scalars s) told.6 i d h

  reply_ends : (bytes : List ℕ) (epoch : ℕ) (es : List E) (c s : S) → reply_batch m bytes ≡ Some (epoch, es, c, s) →
      drop (place m (length es)) bytes ≡ scalar_code m.scalars c ++ scalar_code m.scalars s
  unfolding place
  reply_ends bytes epoch es c s e =
      let w = m.element_width in
      let told = reply_told m bytes (answers_of m epoch es c s) (reply_parts bytes epoch es c s e) in
      sym (drop-drop (length es * w) 5 bytes) ∙ ap (drop (length es * w)) told.6 ∙
      drop_at (row m es) (scalar_code m.scalars c ++ scalar_code m.scalars s) (length es * w) (row_length m es)

  pub round_trip : RoundTrip m
  round_trip = record { request = request_trip; reply = reply_trip }

  pub one_encoding : OneEncoding m
  one_encoding =
      record {
        request = request_written;
        reply = reply_written;
        one_request = λ x y hx hy b ex ey. (request_written x hx b.0 b.1 ex).0 ∙ sym (request_written y hy b.0 b.1 ey).0;
        one_reply = λ x y hx hy b ex ey. (reply_written x hx b.0 b.1 b.2 b.3 ex).0 ∙ sym (reply_written y hy b.0 b.1 b.2 b.3 ey).0;
      }

  pub placed : Placed m
  placed = record { request = request_placed; request_end = request_ends; reply = reply_placed; reply_end = reply_ends }
