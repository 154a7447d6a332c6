-- How many bytes a written batch has: its request, and its tokens. Assumes nothing.
use Rattle.std.proofs.Common.{◌≡◌, ℕ, zero, suc, ◌+◌, ◌*◌, ◌/◌, ◌%◌, ◌≤◌, Bool, not, eqb, ltb, List, [], ◌∷◌, ◌++◌, length, take, drop, Ok, Result, sym, ap, ◌∙◌, suc-mul, zero-mul, arith, length-append, length-drop}
use Rattle.std.proofs.lemmas.List.{length-take-le}
use Rattle.faults.specs.declared.BatchFault.{BatchFault}
use Rattle.faults.specs.declared.BatchFault.TheVariants.{Wire, Ring}
use Rattle.faults.specs.declared.GroupFault.{GroupFault}
use Rattle.faults.specs.declared.RingFault.TheVariants.{NotOpen}
use Rattle.faults.specs.declared.WireFault.TheVariants.{ShortScratch, WrongLength, WrongCount, ShortOutlet}
use Rattle.group.specs.Model.{Model}
use Rattle.hashing.specs.Hashing.{authenticator, key_id}
use Rattle.messages.proofs.Ruled.{same_answer, passes, passed_equal}
use Rattle.messages.proofs.Writing.{request_bytes_length}
use Rattle.messages.specs.Answers.{ruled}
use Rattle.messages.specs.Messages.{Answers, request_length, token_bytes, token_input_bytes}
use Rattle.token.specs.Tokens.{then, of_group, element_of, key_of}
use Rattle.voprf.specs.Blinding.{unblinded}
use Rattle.client.proofs.Following.{then_ok, item_passed}
use Rattle.client.proofs.Replies.{reply_known}
use Rattle.client.specs.Batches.{of_item, input_under, sent, sent_code, walked}
use Rattle.client.specs.Blinding.{vetted, blind_answer}
use Rattle.client.specs.Finishing.{finalized, token_made, reply_parts, finish_vetted, confirmed, finish_answer}
use Rattle.client.proofs.Hashes.{key_id_long, authenticator_long}

module _ {E S K : Type 0} (m : Model E S K) where
  -- a step that makes w bytes of each item makes n * w of n
  module _ (step : List ℕ → List ℕ → List ℕ → Result (List ℕ) GroupFault) (w epoch : ℕ) (id : List ℕ)
      (wide : (seed blind got bytes : List ℕ) → length seed ≡ 64 → step (input_under m epoch id seed) blind got ≡ Ok bytes → length bytes ≡ w) where
    pub walked_length : (i n : ℕ) (seeds blinds gots front codes : List ℕ) → 64 * n ≤ length seeds →
        walked m step epoch id i n seeds blinds gots front ≡ Ok codes → length codes ≡ length front + n * w
    unfolding walked
    walked_length i zero seeds blinds gots front codes h e =
        let same = ap (length {A = ℕ}) (same_answer front codes e) in
        let none = zero-mul w in
        omega (arith, same, none)
    walked_length i (suc n) seeds blinds gots front codes h e =
        let next : List ℕ → Result (List ℕ) BatchFault =
        λ bytes. walked m step epoch id (i + 1) n (drop 64 seeds) (drop m.scalars.width blinds) (drop m.element_width gots) (front ++ bytes) in
        let made = step (input_under m epoch id (take 64 seeds)) (take m.scalars.width blinds) (take m.element_width gots) in
        let one = then_ok (of_item i made) next codes e in
        let bytes = one.0 in
        let later : 64 * n ≤ length (drop 64 seeds) = let l = length-drop 64 seeds in omega (arith, h, l) in
        let rest = walked_length (i + 1) n (drop 64 seeds) (drop m.scalars.width blinds) (drop m.element_width gots) (front ++ bytes) codes later one.2 in
        let long = wide (take 64 seeds) _ _ bytes (length-take-le 64 seeds (omega (arith, h))) (item_passed i made bytes one.1) in
        let both = length-append front bytes in
        let law = suc-mul n w in
        omega (arith, rest, long, both, law)

  -- an item's code has the width of its kind
  sent_wide : (input blind got bytes : List ℕ) → sent_code m input blind got ≡ Ok bytes → length bytes ≡ m.element_width
  unfolding sent_code
  sent_wide input blind got bytes e =
      let one = then_ok (sent m input blind) (λ b. Ok (m.code b)) bytes e in
      ap length (sym (same_answer (m.code one.0) bytes one.2)) ∙ m.coded one.0

  -- the checks before any item tell how many items there are
  vetted_count : (scratch epoch : ℕ) (code seeds blinds : List ℕ) (outlet : ℕ) (known : E × ℕ) → vetted m scratch epoch code seeds blinds outlet ≡ Ok known → known.1 ≡ length seeds / 64
  unfolding vetted
  vetted_count scratch epoch code seeds blinds outlet known e =
      let n = length seeds / 64 in
      let checks : List (Bool × BatchFault) =
      (ltb scratch 1024, Wire ShortScratch)
      ∷ (eqb epoch 0, Ring NotOpen)
      ∷ (not (eqb (length code) m.element_width), Wire WrongLength)
      ∷ (not (eqb (length seeds % 64) 0), Wire WrongLength)
      ∷ (eqb n 0, Wire WrongCount)
      ∷ (ltb 16 n, Wire WrongCount)
      ∷ (not (eqb (length blinds) (n * m.scalars.width)), Wire WrongLength)
      ∷ [] in
      let fits : List (Bool × BatchFault) = (ltb outlet (request_length m n), Wire ShortOutlet) ∷ [] in
      let next : E → Result (E × ℕ) BatchFault = λ pk. ruled fits (Ok (pk, n)) in
      let past = passes checks (then (of_group (element_of m code)) next) known e in
      let two = then_ok (of_group (element_of m code)) next known past.1 in
      let three = passes fits (Ok (two.0, n)) known two.2 in
      ap (λ (k : E × ℕ). k.1) (sym (same_answer {E = BatchFault} (two.0, n) known three.1))

  -- the request of a batch has the length that its n tells
  pub request_long : (scratch epoch : ℕ) (code seeds blinds request : List ℕ) (outlet : ℕ) →
      blind_answer m scratch epoch code seeds blinds outlet ≡ Ok request → length request ≡ request_length m (length seeds / 64)
  unfolding blind_answer
  request_long scratch epoch code seeds blinds request outlet e =
      let one = then_ok (vetted m scratch epoch code seeds blinds outlet) _ request e in
      let known = one.0 in
      let id = key_id m known.0 in
      let two = then_ok (walked m (sent_code m) epoch id 0 known.1 seeds blinds [] []) _ request one.2 in
      let codes = two.0 in
      let counted = vetted_count scratch epoch code seeds blinds outlet known one.1 in
      let whole : length codes ≡ known.1 * m.element_width =
      let l = walked_length (sent_code m) m.element_width epoch id (λ seed blind got bytes h e. sent_wide _ blind got bytes e) 0 known.1 seeds blinds [] [] codes (omega (arith, counted)) two.1 in
      omega (arith, l) in
      ap length (sym (same_answer _ request two.2))
      ∙ request_bytes_length m (record { epoch = epoch; count = known.1; items = codes }) whole
      ∙ ap (λ (n : ℕ). request_length m n) counted

  -- a token has 132 bytes
  token_wide : (epoch : ℕ) (pk : E) (seed blind got bytes : List ℕ) → length seed ≡ 64 →
      token_made m (input_under m epoch (key_id m pk) seed) blind got ≡ Ok bytes → length bytes ≡ 132
  unfolding token_made finalized input_under token_input_bytes token_bytes
  token_wide epoch pk seed blind got bytes h e =
      let id = key_id m pk in
      let nonce = take 32 seed in
      let context = take 32 (drop 32 seed) in
      let input = token_input_bytes m.kind epoch nonce context id in
      let one = then_ok (finalized m input blind got) (λ a. Ok (token_bytes input a)) bytes e in
      let two = then_ok (key_of m blind) _ one.0 one.1 in
      let three = then_ok (element_of m got) (λ p. Ok (authenticator m input (unblinded m two.0 p))) one.0 two.2 in
      let tag = ap (length {A = ℕ}) (same_answer _ one.0 three.2) in
      let all = ap (length {A = ℕ}) (same_answer (input ++ one.0) bytes one.2) in
      omega (
        arith,
        all,
        tag,
        authenticator_long m input (unblinded m two.0 three.0),
        key_id_long m pk,
        length-take-le 32 seed (omega (arith, h)),
        length-take-le 32 (drop 32 seed) (let l = length-drop 32 seed in omega (arith, h, l)),
        length-append input one.0,
        length-append nonce (context ++ id),
        length-append context id,
      )

  -- the checks before any item: the seeds and the reply are those of n items
  seeds_fit : (scratch epoch n : ℕ) (code seeds blinds reply : List ℕ) (outlet : ℕ) (known : E × Answers) →
      finish_vetted m scratch epoch n code seeds blinds reply outlet ≡ Ok known → (length seeds ≡ 64 * n) × (known.1.count ≡ n)
  unfolding finish_vetted
  seeds_fit scratch epoch n code seeds blinds reply outlet known e =
      let checks : List (Bool × BatchFault) =
      (ltb scratch 1024, Wire ShortScratch)
      ∷ (not (eqb (length code) m.element_width), Wire WrongLength)
      ∷ (not (eqb (length seeds) (64 * n)), Wire WrongLength)
      ∷ (not (eqb (length blinds) (n * m.scalars.width)), Wire WrongLength)
      ∷ [] in
      let fits : List (Bool × BatchFault) = (ltb outlet (132 * n), Wire ShortOutlet) ∷ [] in
      let last : Answers → E → Result (E × Answers) BatchFault = λ got pk. ruled fits (Ok (pk, got)) in
      let next : Answers → Result (E × Answers) BatchFault = λ got. then (of_group (element_of m code)) (last got) in
      let past = passes checks (then (reply_parts m epoch n reply) next) known e in
      let two = then_ok (reply_parts m epoch n reply) next known past.1 in
      let got = two.0 in
      let three = then_ok (of_group (element_of m code)) (last got) known two.2 in
      let four = passes fits (Ok (three.0, got)) known three.2 in
      let same = ap (λ (k : E × Answers). k.1.count) (same_answer {E = BatchFault} (three.0, got) known four.1) in
      (passed_equal (length seeds) (64 * n) past.0.1.1.0, sym same ∙ (reply_known m n epoch reply got two.1).1)

  -- the tokens of a batch of n items have 132 bytes each
  pub tokens_long : (scratch epoch n : ℕ) (code seeds blinds reply tokens : List ℕ) (outlet : ℕ) →
      finish_answer m scratch epoch n code seeds blinds reply outlet ≡ Ok tokens → length tokens ≡ 132 * n
  unfolding finish_answer
  tokens_long scratch epoch n code seeds blinds reply tokens outlet e =
      let one = then_ok (finish_vetted m scratch epoch n code seeds blinds reply outlet) _ tokens e in
      let known = one.0 in
      let pk = known.0 in
      let got = known.1 in
      let two = then_ok (confirmed m pk (key_id m pk) seeds blinds got) _ tokens one.2 in
      let fit = seeds_fit scratch epoch n code seeds blinds reply outlet known one.1 in
      let long = fit.0 in
      let count = fit.1 in
      let l = walked_length (token_made m) 132 got.epoch (key_id m pk) (token_wide got.epoch pk) 0 got.count seeds blinds got.items [] tokens (omega (arith, long, count)) two.2 in
      omega (arith, l, count)
