-- A reply by a station that keeps to the steps is accepted.
use Rattle.std.proofs.Common.{◌≡◌, ℕ, ◌*◌, ◌/◌, ◌%◌, ◌<◌, ◌≤◌, not, eqb, ltb, List, [], ◌∷◌, ◌++◌, map, length, Ok, Result, sym, refl, ap, ◌∙◌, subst, arith}
use Rattle.std.specs.Option.{ok_or}
use Rattle.std.proofs.lemmas.List.{length-map}
use Rattle.std.proofs.lemmas.Bool.{le-ltb, ltb-false, eqb-false}
use Rattle.faults.specs.declared.WireFault.TheVariants.{ShortScratch, WrongLength, WrongCount, ShortOutlet}
use Rattle.faults.specs.declared.RingFault.TheVariants.{NotOpen}
use Rattle.faults.specs.declared.GroupFault.TheVariants.{NoScalar}
use Rattle.faults.specs.declared.BatchFault.{BatchFault}
use Rattle.faults.specs.declared.BatchFault.TheVariants.{Wire, Ring}
use Rattle.scalar.specs.Scalars.{scalar_code}
use Rattle.scalar.proofs.Codes.{code_read}
use Rattle.group.specs.Model.{Model}
use Rattle.group.specs.Theorems.{row}
use Rattle.hashing.specs.Hashing.{key_id}
use Rattle.voprf.specs.Blinding.{public_key, answered}
use Rattle.voprf.specs.Proving.{proved, checked}
use Rattle.voprf.proofs.Passing.{proofs_pass}
use Rattle.messages.specs.Answers.{ruled}
use Rattle.messages.specs.Messages.{Answers, request_bytes, request_length, split_reply, written_request, written_reply}
use Rattle.messages.proofs.Batches.{written_reply_header, written_reply_split}
use Rattle.messages.proofs.Ruled.{passed, passes, equal_passes, passed_equal}
use Rattle.token.specs.Tokens.{then, of_group, element_of}
use Rattle.client.specs.Batches.{sent_code, walked}
use Rattle.client.specs.Blinding.{vetted, blind_answer}
use Rattle.client.specs.Finishing.{code_again, token_made, reply_parts, finish_vetted, confirmed}
use Rattle.client.specs.Honest.{GoodTokens, Ordered, HonestReplies}
use Rattle.client.proofs.Replies.{reply_fits}
use Rattle.client.proofs.Following.{then_ok}
use Rattle.client.proofs.Finishes.{judged, all_done}
use Rattle.client.proofs.Honesty.{element_whole, public_some, all_answered}

same_answer : {T F : Type 0} (x y : T) → ◌≡◌ {A = Result T F} (Ok x) (Ok y) → x ≡ y
same_answer x y e = cc

module _ {E S K : Type 0} (m : Model E S K) (k : K) where
  abbrev pk : E
  pk = public_key m k

  read_key : of_group (element_of m (m.code pk)) ≡ Ok pk
  read_key = ap of_group (element_whole m pk (public_some m k))

  -- what blind's checks say of a request for the key's public key
  record Vets (seeds blinds : List ℕ) (known : E × ℕ) : Type 0 where
    keyed : known ≡ (pk, length seeds / 64)
    some : 1 ≤ length seeds / 64
    few : length seeds / 64 ≤ 16
    seeded : length seeds ≡ 64 * (length seeds / 64)
    blinded_each : length blinds ≡ length seeds / 64 * m.scalars.width

  vets : (scratch epoch : ℕ) (seeds blinds : List ℕ) (outlet : ℕ) (known : E × ℕ) → vetted m scratch epoch (m.code pk) seeds blinds outlet ≡ Ok known → Vets seeds blinds known
  unfolding vetted
  vets scratch epoch seeds blinds outlet known e =
      let n = length seeds / 64 in
      let rest : Result (E × ℕ) BatchFault =
      then (of_group (element_of m (m.code pk))) (λ x. ruled ((ltb outlet (request_length m n), Wire ShortOutlet) ∷ []) (Ok (x, n))) in
      let got = passes
      ((ltb scratch 1024, Wire ShortScratch)
      ∷ (eqb epoch 0, Ring NotOpen)
      ∷ (not (eqb (length (m.code pk)) m.element_width), Wire WrongLength)
      ∷ (not (eqb (length seeds % 64) 0), Wire WrongLength)
      ∷ (eqb n 0, Wire WrongCount)
      ∷ (ltb 16 n, Wire WrongCount)
      ∷ (not (eqb (length blinds) (n * m.scalars.width)), Wire WrongLength)
      ∷ [])
      rest known e in
      let known_is : ruled ((ltb outlet (request_length m n), Wire ShortOutlet) ∷ []) (Ok (pk, n)) ≡ Ok known =
      sym (ap (λ r. then r (λ x. ruled ((ltb outlet (request_length m n), Wire ShortOutlet) ∷ []) (Ok (x, n)))) read_key) ∙ got.1 in
      let last = passes ((ltb outlet (request_length m n), Wire ShortOutlet) ∷ []) (Ok (pk, n)) known known_is in
      let whole = passed_equal (length seeds % 64) 0 got.0.1.1.1.0 in
      let many = eqb-false n 0 got.0.1.1.1.1.0 in
      record {
        keyed = sym (same_answer (pk, n) known last.1);
        some = omega arith;
        few = ltb-false 16 n got.0.1.1.1.1.1.0;
        seeded = omega arith;
        blinded_each = passed_equal (length blinds) (n * m.scalars.width) got.0.1.1.1.1.1.1.0;
      }

  module _ (epoch : ℕ) (small : epoch < 65536) (seeds blinds : List ℕ) (items : List E) (c s : S) where
    abbrev es : List E
    es = map (answered m k) items

    abbrev n : ℕ
    n = length items

    abbrev reply : List ℕ
    reply = written_reply m epoch es c s

    abbrev got : Answers
    got = record { epoch = epoch; count = n; items = row m es; challenge = scalar_code m.scalars c; response = scalar_code m.scalars s }

    -- the reply is one to this batch
    reply_read : reply_parts m epoch n reply ≡ Ok got
    reply_read =
        let same : length es ≡ n = length-map items (answered m k) in
        reply_fits m epoch n reply (record { kind = m.kind; epoch = epoch; count = length es }) (row m es ++ (scalar_code m.scalars c ++ scalar_code m.scalars s))
        (written_reply_header m epoch es c s small) (row m es, scalar_code m.scalars c, scalar_code m.scalars s)
        (ap (λ (j : ℕ). split_reply m j (row m es ++ (scalar_code m.scalars c ++ scalar_code m.scalars s))) (sym same) ∙ written_reply_split m es c s) refl refl same

    -- its checks pass
    reply_vetted : (scratch outlet : ℕ) → 1024 ≤ scratch → 132 * n ≤ outlet → length seeds ≡ 64 * n → length blinds ≡ n * m.scalars.width →
        finish_vetted m scratch epoch n (m.code pk) seeds blinds reply outlet ≡ Ok (pk, got)
    unfolding finish_vetted
    reply_vetted scratch outlet room fits seeded blinded_each =
        let last : Answers → E → Result (E × Answers) BatchFault = λ a x. ruled ((ltb outlet (132 * n), Wire ShortOutlet) ∷ []) (Ok (x, a)) in
        let keyed : Answers → Result (E × Answers) BatchFault = λ a. then (of_group (element_of m (m.code pk))) (last a) in
        passed
        ((ltb scratch 1024, Wire ShortScratch)
        ∷ (not (eqb (length (m.code pk)) m.element_width), Wire WrongLength)
        ∷ (not (eqb (length seeds) (64 * n)), Wire WrongLength)
        ∷ (not (eqb (length blinds) (n * m.scalars.width)), Wire WrongLength)
        ∷ []) (then (reply_parts m epoch n reply) keyed) (
          le-ltb scratch 1024 room,
          (
            equal_passes (length (m.code pk)) m.element_width (m.coded pk),
            (
              equal_passes (length seeds) (64 * n) seeded,
              (equal_passes (length blinds) (n * m.scalars.width) blinded_each, tt),
            ),
          ),
        )
        ∙ ap (λ r. then r keyed) reply_read
        ∙ ap (λ r. then r (last got)) read_key
        ∙ passed ((ltb outlet (132 * n), Wire ShortOutlet) ∷ []) (Ok (pk, got)) (le-ltb outlet (132 * n) fits, tt)

    -- the items and the proof pass
    reply_confirmed : (u : K) → n ≤ 16 → proved m k u pk (row m items) (row m es) ≡ Ok (c, s) →
        walked m (code_again m) epoch (key_id m pk) 0 n seeds blinds (row m es) [] ≡ Ok (row m items) →
        confirmed m pk (key_id m pk) seeds blinds got ≡ Ok tt
    reply_confirmed u few proves walks =
        let made = proofs_pass m k u items few in
        let same = same_answer made.0 (c, s) (sym made.1 ∙ proves) in
        judged m pk (key_id m pk) seeds blinds got (row m items) walks c (sym (ap (λ o. ok_or o NoScalar) (code_read m.scalars c)))
        s (sym (ap (λ o. ok_or o NoScalar) (code_read m.scalars s)))
        ∙ ap (checked m pk (row m items) (row m es)) (sym same) ∙ made.2

  module _ (scratch epoch : ℕ) (seeds blinds request : List ℕ) (outlet : ℕ) (small : epoch < 65536) where
    pub ordered : blind_answer m scratch epoch (m.code pk) seeds blinds outlet ≡ Ok request → Ordered m k epoch seeds blinds request
    unfolding blind_answer written_request
    ordered e =
        let sends : E × ℕ → Result (List ℕ) BatchFault = λ x. walked m (sent_code m) epoch (key_id m x.0) 0 x.1 seeds blinds [] [] in
        let writes : E × ℕ → List ℕ → Result (List ℕ) BatchFault = λ x codes. Ok (request_bytes m (record { epoch = epoch; count = x.1; items = codes })) in
        let one = then_ok (vetted m scratch epoch (m.code pk) seeds blinds outlet) (λ x. then (sends x) (writes x)) request e in
        let known = vets scratch epoch seeds blinds outlet one.0 one.1 in
        let n = length seeds / 64 in
        let rest : then (sends (pk, n)) (writes (pk, n)) ≡ Ok request = sym (ap (λ (x : E × ℕ). then (sends x) (writes x)) known.keyed) ∙ one.2 in
        let two = then_ok (sends (pk, n)) (writes (pk, n)) request rest in
        let batch = all_answered m k epoch small 0 n seeds blinds [] [] two.0 known.seeded two.1 in
        let items = batch.items in
        let counted = batch.counted in
        record {
          items = items;
          written = sym (same_answer (request_bytes m (record { epoch = epoch; count = n; items = two.0 })) request two.2)
              ∙ ap (λ (l : List ℕ). request_bytes m (record { epoch = epoch; count = n; items = l })) batch.rowed
              ∙ ap (λ (j : ℕ). request_bytes m (record { epoch = epoch; count = j; items = row m items })) (sym counted);
          counted = counted;
          some = subst (λ (j : ℕ). 1 ≤ j) (sym counted) known.some;
          few = subst (λ (j : ℕ). j ≤ 16) (sym counted) known.few;
          none_null = batch.none_null;
          accepted = λ u c s proves room space enough fits.
              let seeded : length seeds ≡ 64 * length items = known.seeded ∙ ap (λ (j : ℕ). 64 * j) (sym counted) in
              let blinded_each : length blinds ≡ length items * m.scalars.width = known.blinded_each ∙ ap (λ (j : ℕ). j * m.scalars.width) (sym counted) in
              let few : length items ≤ 16 = subst (λ (j : ℕ). j ≤ 16) (sym counted) known.few in
              let es = row m (map (answered m k) items) in
              let id = key_id m pk in
              let walks : walked m (code_again m) epoch id 0 (length items) seeds blinds es [] ≡ Ok (row m items) =
              ap (λ (j : ℕ). walked m (code_again m) epoch id 0 j seeds blinds es []) counted ∙ batch.again [] in
              let makes : walked m (token_made m) epoch id 0 (length items) seeds blinds es [] ≡ Ok batch.tokens =
              ap (λ (j : ℕ). walked m (token_made m) epoch id 0 j seeds blinds es []) counted ∙ batch.made [] in (
                batch.tokens,
                all_done m room epoch (length items) (m.code pk) seeds blinds (reply epoch small seeds blinds items c s) space (pk, got epoch small seeds blinds items c s)
                    (reply_vetted epoch small seeds blinds items c s room space enough fits seeded blinded_each) id refl
                    (sym (reply_confirmed epoch small seeds blinds items c s u few proves walks)) batch.tokens makes,
                subst (λ (j : ℕ). GoodTokens m k epoch seeds j batch.tokens) (sym counted) batch.good,
              );
        }

pub honest : {E S K : Type 0} (m : Model E S K) → HonestReplies m
honest m k scratch epoch seeds blinds request outlet small e = ordered m k scratch epoch seeds blinds request outlet small e
