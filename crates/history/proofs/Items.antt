-- The items of an answered request: each answer is its element times the key, and no element is the null.
use Rattle.std.proofs.Common.{◌≡◌, ℕ, zero, suc, ◌+◌, ◌*◌, ◌<◌, cond, not, eqb, ltb, List, [], ◌∷◌, ◌++◌, map, length, get_or, take, drop, Some, Ok, Err, Option, Result, sym, refl, ap, ◌∙◌, subst, append_assoc, append-nil, suc-mul, zero-mul, arith, length-drop}
use Rattle.std.proofs.lemmas.List.{take-append-drop, drop-drop, get_or-map, length-map, take_at, drop_at}
use Rattle.std.specs.Option.{ok_or}
use Rattle.std.specs.List.{AllByRecursion}
use Rattle.faults.specs.declared.WireFault.TheVariants.{ShortScratch, WrongLength, ShortOutlet}
use Rattle.faults.specs.declared.RingFault.TheVariants.{NotOpen}
use Rattle.faults.specs.declared.GroupFault.{GroupFault}
use Rattle.faults.specs.declared.GroupFault.TheVariants.{NoElement, NullElement}
use Rattle.faults.specs.declared.BatchFault.{BatchFault}
use Rattle.faults.specs.declared.StationFault.{StationFault}
use Rattle.faults.specs.declared.StationFault.TheVariants.{Wire}
use Rattle.scalar.specs.Scalars.{scalar_code}
use Rattle.group.specs.Model.{Model}
use Rattle.group.specs.Elements.{null}
use Rattle.group.specs.Theorems.{row}
use Rattle.voprf.specs.Blinding.{public_key, answered}
use Rattle.voprf.specs.Proving.{proved}
use Rattle.messages.specs.Answers.{ruled}
use Rattle.messages.specs.Messages.{Batch, Answers, read_request, reply_bytes, reply_length, head_bytes, place, code_in, epoch_in, count_in}
use Rattle.messages.proofs.Ruled.{passes, same_answer}
use Rattle.messages.proofs.Trips.{request_told}
use Rattle.messages.proofs.Batches.{row_item}
use Rattle.token.specs.Tokens.{then, is_null, element_of, key_of}
use Rattle.station.specs.Answers.{of_wire, of_ring, of_group, of_batch}
use Rattle.station.specs.Issuing.{of_item, Order, accepted, answer_codes, replied, issue_answer}
use Rattle.history.proofs.Steps.{no_answer, then_ok, wire_ok, ring_ok, batch_ok, some_ok, same_some}
use Rattle.history.proofs.Worth.{not_null, null_not}

item_ok : {T : Type 0} (i : ℕ) (r : Result T GroupFault) (x : T) → of_item i r ≡ Ok x → r ≡ Ok x
item_ok i (Ok y) x e = let z : y ≡ x = cc in ap (λ v. Ok v) z
item_ok i (Err f) x e = no_answer e

module _ {E S K : Type 0} (m : Model E S K) where
  abbrev pub Real : E → Type 0
  Real b = b ≡ null m → ⊥

  element_ok : (code : List ℕ) (b : E) → element_of m code ≡ Ok b → (m.code b ≡ code) × Real b
  unfolding element_of
  element_ok code b e =
      let next : E → Result E GroupFault = λ p. ruled ((is_null m p, NullElement) ∷ []) (Ok p) in
      let p = then_ok (ok_or (m.element code) NoElement) next b e in
      let q = passes ((is_null m p.0, NullElement) ∷ []) (Ok p.0) b p.2 in
      let same = same_answer p.0 b q.1 in (
        m.encoded code b (some_ok (m.element code) NoElement p.0 p.1 ∙ ap (λ x. Some x) same),
        subst Real same (not_null m p.0 q.0.0),
      )

  pub element_back : (b : E) → Real b → element_of m (m.code b) ≡ Ok b
  unfolding element_of
  element_back b real =
      let next : E → Result E GroupFault = λ p. ruled ((is_null m p, NullElement) ∷ []) (Ok p) in
      ap (λ o. then (ok_or o NoElement) next) (m.decoded b) ∙ ap (λ t. cond t (Err NullElement) (Ok b)) (null_not m b real)

  module _ (k : K) where
    -- the row of a request's elements, and the row of their answers
    pub record Rows (n : ℕ) (items front got : List ℕ) : Type 0 where
      pub bs : List E
      pub many : length bs ≡ n
      pub sent : items ≡ row m bs
      pub real : AllByRecursion Real bs
      pub answers : got ≡ front ++ row m (map (answered m k) bs)

    pub rows_in : (n i : ℕ) (items front got : List ℕ) → length items ≡ n * m.element_width → answer_codes m k i n items front ≡ Ok got → Rows n items front got
    unfolding answer_codes
    rows_in zero i [] front got l e = record { bs = []; many = refl; sent = refl; real = tt; answers = sym (same_answer front got e) ∙ sym (append-nil front) }
    rows_in zero i (x ∷ items) front got l e = absurd (let z = zero-mul m.element_width in omega arith)
    rows_in (suc n) i items front got l e =
        let w = m.element_width in
        let next : E → Result (List ℕ) BatchFault = λ b. answer_codes m k (i + 1) n (drop w items) (front ++ m.code (answered m k b)) in
        let p = then_ok (of_item i (element_of m (take w items))) next got e in
        let b = p.0 in
        let f = element_ok (take w items) b (item_ok i (element_of m (take w items)) b p.1) in
        let long : length (drop w items) ≡ n * w = length-drop w items ∙ (let z = suc-mul n w in omega arith) in
        let r = rows_in n (i + 1) (drop w items) (front ++ m.code (answered m k b)) got long p.2 in
        record {
          bs = b ∷ r.bs;
          many = ap suc r.many;
          sent = sym (take-append-drop w items) ∙ ap (λ x. x ++ drop w items) (sym f.0) ∙ ap (λ x. m.code b ++ x) r.sent;
          real = (f.1, r.real);
          answers = r.answers ∙ append_assoc front (m.code (answered m k b)) (row m (map (answered m k) r.bs));
        }

    pub rows_out : (i : ℕ) (bs : List E) (front : List ℕ) → AllByRecursion Real bs → answer_codes m k i (length bs) (row m bs) front ≡ Ok (front ++ row m (map (answered m k) bs))
    unfolding answer_codes
    rows_out i [] front real = ap (λ x. Ok x) (sym (append-nil front))
    rows_out i (b ∷ bs) front real =
        let w = m.element_width in
        let next : List ℕ → E → Result (List ℕ) BatchFault = λ rest x. answer_codes m k (i + 1) (length bs) rest (front ++ m.code (answered m k x)) in
        let first : take w (m.code b ++ row m bs) ≡ m.code b = take_at (m.code b) (row m bs) w (m.coded b) in
        let rest : drop w (m.code b ++ row m bs) ≡ row m bs = drop_at (m.code b) (row m bs) w (m.coded b) in
        ap (λ c. then (of_item i (element_of m c)) (next (drop w (m.code b ++ row m bs)))) first
        ∙ ap (λ r. then (of_item i r) (next (drop w (m.code b ++ row m bs)))) (element_back b real.0)
        ∙ ap (λ x. next x b) rest
        ∙ rows_out (i + 1) bs (front ++ m.code (answered m k b)) real.1
        ∙ ap (λ x. Ok x) (append_assoc front (m.code (answered m k b)) (row m (map (answered m k) bs)))

  -- what an accepted issue says
  pub record Replied (key : ℕ → Option K) (q p : List ℕ) : Type 0 where
    pub batch : Batch
    pub reads : read_request m q ≡ Ok batch
    pub k : K
    pub u : K
    pub found : key batch.epoch ≡ Some k
    pub got : List ℕ
    pub codes : answer_codes m k 0 batch.count batch.items [] ≡ Ok got
    pub c : S
    pub s : S
    pub proof : proved m k u (public_key m k) batch.items got ≡ Ok (c, s)
    pub reply : p ≡ reply_bytes m (record { epoch = batch.epoch; count = batch.count; items = got; challenge = scalar_code m.scalars c; response = scalar_code m.scalars s })

  module _ (scratch outlet : ℕ) (key : ℕ → Option K) (q nonce : List ℕ) where
    fitting : Batch → K → K → Result (Order K) StationFault
    fitting b k u = ruled ((ltb outlet (reply_length m b.count), Wire ShortOutlet) ∷ []) (Ok (record { batch = b; key = k; nonce = u }))

    keyed : Batch → K → Result (Order K) StationFault
    keyed b k = ruled ((not (eqb (length nonce) m.scalars.width), Wire WrongLength) ∷ []) (then (of_group (key_of m nonce)) (fitting b k))

    read : Batch → Result (Order K) StationFault
    read b = then (of_ring (ok_or (key b.epoch) NotOpen)) (keyed b)

    accepted_ok : (o : Order K) → accepted m scratch key q nonce outlet ≡ Ok o → (read_request m q ≡ Ok o.batch) × (key o.batch.epoch ≡ Some o.key)
    unfolding accepted read keyed fitting
    accepted_ok o e =
        let a = (passes ((ltb scratch 1024, Wire ShortScratch) ∷ []) (then (of_wire (read_request m q)) read) o e).1 in
        let b = then_ok (of_wire (read_request m q)) read o a in
        let c = then_ok (of_ring (ok_or (key b.0.epoch) NotOpen)) (keyed b.0) o b.2 in
        let d = (passes ((not (eqb (length nonce) m.scalars.width), Wire WrongLength) ∷ []) (then (of_group (key_of m nonce)) (fitting b.0 c.0)) o c.2).1 in
        let f = then_ok (of_group (key_of m nonce)) (fitting b.0 c.0) o d in
        let whole : Order K = record { batch = b.0; key = c.0; nonce = f.0 } in
        let g = same_answer whole o (passes ((ltb outlet (reply_length m b.0.count), Wire ShortOutlet) ∷ []) (Ok whole) o f.2).1 in
        let same-batch : b.0 ≡ o.batch = ap (λ (x : Order K). x.batch) g in
        let same_key : c.0 ≡ o.key = ap (λ (x : Order K). x.key) g in
        let found = some_ok (key b.0.epoch) NotOpen c.0 (ring_ok (ok_or (key b.0.epoch) NotOpen) c.0 c.1) in (
          wire_ok (read_request m q) b.0 b.1 ∙ ap (λ x. Ok x) same-batch,
          ap (λ (x : Batch). key x.epoch) (sym same-batch) ∙ found ∙ ap (λ x. Some x) same_key,
        )

    replied_ok : (o : Order K) (p : List ℕ) → replied m o ≡ Ok p → read_request m q ≡ Ok o.batch → key o.batch.epoch ≡ Some o.key → Replied key q p
    unfolding replied
    replied_ok o p e reads found =
        let b = o.batch in
        let whole : List ℕ → S × S → List ℕ = λ got x.
        reply_bytes m (record { epoch = b.epoch; count = b.count; items = got; challenge = scalar_code m.scalars x.0; response = scalar_code m.scalars x.1 }) in
        let last : List ℕ → S × S → Result (List ℕ) BatchFault = λ got x. Ok (whole got x) in
        let next : List ℕ → Result (List ℕ) BatchFault = λ got. then (proved m o.key o.nonce (public_key m o.key) b.items got) (last got) in
        let x = then_ok (answer_codes m o.key 0 b.count b.items []) next p e in
        let y = then_ok (proved m o.key o.nonce (public_key m o.key) b.items x.0) (last x.0) p x.2 in
        record {
          batch = b;
          reads = reads;
          k = o.key;
          u = o.nonce;
          found = found;
          got = x.0;
          codes = x.1;
          c = y.0.0;
          s = y.0.1;
          proof = y.1;
          reply = sym (same_answer (whole x.0 y.0) p y.2);
        }

    pub issue_ok : (p : List ℕ) → issue_answer m scratch key q nonce outlet ≡ Ok p → Replied key q p
    unfolding issue_answer
    issue_ok p e =
        let a = then_ok (accepted m scratch key q nonce outlet) (λ o. of_batch (replied m o)) p e in
        let f = accepted_ok a.0 a.1 in
        replied_ok a.0 p (batch_ok (replied m a.0) p a.2) f.0 f.1

  -- where an item's code stands in bytes that go on so after five
  stands : (bytes : List ℕ) (bs : List E) (tail : List ℕ) → drop 5 bytes ≡ row m bs ++ tail → (i : ℕ) (d : E) → i < length bs → m.element (code_in m bytes i) ≡ Some (get_or bs i d)
  unfolding code_in place
  stands bytes bs tail e i d h =
      let w = m.element_width in
      ap m.element (ap (take w) (sym (drop-drop (i * w) 5 bytes)) ∙ ap (λ xs. take w (drop (i * w) xs)) e ∙ row_item m bs i d tail h) ∙ m.decoded (get_or bs i d)

  all_at : (bs : List E) (i : ℕ) (d : E) → AllByRecursion Real bs → i < length bs → Real (get_or bs i d)
  all_at [] i d a h = absurd (omega arith)
  all_at (b ∷ bs) zero d a h = a.0
  all_at (b ∷ bs) (suc i) d a h = all_at bs i d a.1 (omega arith)

  head_past : (a : Answers) → drop 5 (reply_bytes m a) ≡ a.items ++ (a.challenge ++ a.response)
  unfolding reply_bytes head_bytes
  head_past a = refl

  -- an answered item: its answer is the key's, and its element is not the null
  pub answer_at : (key : ℕ → Option K) (q p : List ℕ) (r : Replied key q p) (i : ℕ) (sent got : E) → i < count_in q →
      m.element (code_in m q i) ≡ Some sent → m.element (code_in m p i) ≡ Some got → (key (epoch_in q) ≡ Some r.k) × (got ≡ answered m r.k sent) × Real sent
  answer_at key q p r i sent got h a b =
      let f = request_told m q r.batch r.reads in
      let epoch : r.batch.epoch ≡ epoch_in q = ap (λ (x : Batch). x.epoch) f.0 in
      let count : r.batch.count ≡ count_in q = ap (λ (x : Batch). x.count) f.0 in
      let items : r.batch.items ≡ drop 5 q = ap (λ (x : Batch). x.items) f.0 in
      let rows = rows_in r.k r.batch.count 0 r.batch.items [] r.got f.5 r.codes in
      let bs = rows.bs in
      let within : i < length bs = omega (arith, rows.many) in
      let within' : i < length (map (answered m r.k) bs) = omega (arith, length-map bs (answered m r.k)) in
      let here = stands q bs [] (sym items ∙ rows.sent ∙ sym (append-nil (row m bs))) i sent within in
      let sent_is : get_or bs i sent ≡ sent = same_some (get_or bs i sent) sent (sym here ∙ a) in
      let past : drop 5 p ≡ row m (map (answered m r.k) bs) ++ (scalar_code m.scalars r.c ++ scalar_code m.scalars r.s) =
      ap (drop 5) r.reply ∙ head_past _ ∙ ap (λ x. x ++ (scalar_code m.scalars r.c ++ scalar_code m.scalars r.s)) rows.answers in
      let there = stands p (map (answered m r.k) bs) (scalar_code m.scalars r.c ++ scalar_code m.scalars r.s) past i got within' in
      let got-is : get_or (map (answered m r.k) bs) i got ≡ got = same_some (get_or (map (answered m r.k) bs) i got) got (sym there ∙ b) in (
        ap key (sym epoch) ∙ r.found,
        sym got-is ∙ get_or-map (answered m r.k) bs i sent got within ∙ ap (answered m r.k) sent_is,
        subst Real sent_is (all_at bs i sent rows.real within),
      )
