-- What is known of an item that passed, and that the second pass follows the first.
use Rattle.std.proofs.Common.{◌≡◌, ℕ, zero, suc, ◌+◌, Bool, true, false, List, [], ◌∷◌, ◌++◌, take, drop, Ok, Err, Result, sym, refl, ap, ◌∙◌, arith}
use Rattle.faults.specs.declared.GroupFault.{GroupFault}
use Rattle.faults.specs.declared.GroupFault.TheVariants.{NullInput}
use Rattle.group.specs.Model.{Model}
use Rattle.hashing.specs.Hashing.{hash_to_group, authenticator}
use Rattle.voprf.specs.Blinding.{blinded, unblinded}
use Rattle.messages.specs.Answers.{ruled}
use Rattle.messages.specs.Messages.{token_bytes}
use Rattle.token.specs.Tokens.{then, is_null, element_of, key_of}
use Rattle.client.specs.Batches.{of_item, input_under, sent, sent_code, walked}
use Rattle.client.specs.Finishing.{sent_again, finalized, code_again, token_made}

pub ok_err : {T F : Type 0} {x : T} {f : F} → ◌≡◌ {A = Result T F} (Ok x) (Err f) → ⊥
ok_err e = let z : ◌≡◌ {A = ℕ} 0 1 = cc in omega arith

-- a step that answered, and what came of it
pub then_ok : {T U F : Type 0} (r : Result T F) (next : T → Result U F) (u : U) → then r next ≡ Ok u → (x : T) × (r ≡ Ok x) × (next x ≡ Ok u)
then_ok (Ok x) next u e = (x, refl, e)
then_ok (Err f) next u e = absurd (ok_err (sym e))

pub item_passed : {T : Type 0} (i : ℕ) (r : Result T GroupFault) (x : T) → of_item i r ≡ Ok x → r ≡ Ok x
item_passed i (Ok y) x e = let same : y ≡ x = cc in ap (λ z. Ok z) same
item_passed i (Err f) x e = absurd (ok_err (sym e))

module _ {E S K : Type 0} (m : Model E S K) (input : List ℕ) where
  -- an item that is sent has a blind, and its input does not map to the null
  pub record Sent (blind code : List ℕ) : Type 0 where
    pub by : K
    pub read : key_of m blind ≡ Ok by
    pub mapped : is_null m (hash_to_group m input) ≡ false
    pub coded : code ≡ m.code (blinded m by input)

  ruled_ok : (b : Bool) (r : K) (x : E) → ruled ((b, NullInput) ∷ []) (Ok (blinded m r input)) ≡ Ok x → (b ≡ false) × (x ≡ blinded m r input)
  ruled_ok true r x e = absurd (ok_err (sym e))
  ruled_ok false r x e = (refl, cc)

  pub sent_known : (blind : List ℕ) (x : E) → sent m input blind ≡ Ok x → Sent blind (m.code x)
  unfolding sent
  sent_known blind x e =
      let got = then_ok (key_of m blind) (λ r. ruled ((is_null m (hash_to_group m input), NullInput) ∷ []) (Ok (blinded m r input))) x e in
      let rule = ruled_ok (is_null m (hash_to_group m input)) got.0 x got.2 in
      record { by = got.0; read = got.1; mapped = rule.0; coded = ap m.code rule.1 }

  pub sent_code_known : (blind got code : List ℕ) → sent_code m input blind got ≡ Ok code → Sent blind code
  unfolding sent_code
  sent_code_known blind got code e =
      let one = then_ok (sent m input blind) (λ b. Ok (m.code b)) code e in
      let same : m.code one.0 ≡ code = let h = one.2 in cc in
      let known = sent_known blind one.0 one.1 in
      record { by = known.by; read = known.read; mapped = known.mapped; coded = sym same ∙ known.coded }

  -- and the other way round
  pub sent_made : (blind code : List ℕ) (s : Sent blind code) → sent m input blind ≡ Ok (blinded m s.by input)
  unfolding sent
  sent_made blind code s =
      ap (λ r. then r (λ k. ruled ((is_null m (hash_to_group m input), NullInput) ∷ []) (Ok (blinded m k input)))) s.read
      ∙ ap (λ b. ruled ((b, NullInput) ∷ []) (Ok (blinded m s.by input))) s.mapped

  -- an item whose answer is read, too
  pub code_made : (blind got code : List ℕ) (s : Sent blind code) (p : E) → element_of m got ≡ Ok p → code_again m input blind got ≡ Ok code
  unfolding code_again sent_again
  code_made blind got code s p e =
      ap (λ r. then (then r (λ b. then (element_of m got) (λ _. Ok b))) (λ b. Ok (m.code b))) (sent_made blind code s)
      ∙ ap (λ r. then (then r (λ _. Ok (blinded m s.by input))) (λ b. Ok (m.code b))) e ∙ ap (λ (l : List ℕ). Ok l) (sym s.coded)

  pub code_known : (blind got code : List ℕ) → code_again m input blind got ≡ Ok code → Sent blind code × (p : E) × (element_of m got ≡ Ok p)
  unfolding code_again sent_again
  code_known blind got code e =
      let one = then_ok (then (sent m input blind) (λ b. then (element_of m got) (λ _. Ok b))) (λ b. Ok (m.code b)) code e in
      let two = then_ok (sent m input blind) (λ b. then (element_of m got) (λ _. Ok b)) one.0 one.1 in
      let three = then_ok (element_of m got) (λ _. Ok two.0) one.0 two.2 in
      let same : m.code one.0 ≡ code = let h = one.2 in cc in
      let again : two.0 ≡ one.0 = let h = three.2 in cc in
      let known = sent_known blind two.0 two.1 in
      (record { by = known.by; read = known.read; mapped = known.mapped; coded = sym same ∙ ap m.code (sym again) ∙ known.coded }, three.0, three.1)

  -- the token of an item
  pub token_done : (blind got : List ℕ) (r : K) (p : E) → key_of m blind ≡ Ok r → element_of m got ≡ Ok p →
      token_made m input blind got ≡ Ok (token_bytes input (authenticator m input (unblinded m r p)))
  unfolding token_made finalized
  token_done blind got r p k e =
      ap (λ x. then (then x (λ y. then (element_of m got) (λ z. Ok (authenticator m input (unblinded m y z))))) (λ a. Ok (token_bytes input a))) k
      ∙ ap (λ x. then (then x (λ z. Ok (authenticator m input (unblinded m r z)))) (λ a. Ok (token_bytes input a))) e

  -- where the first pass passes an item, the second makes its token
  token_follows : (blind got code : List ℕ) → code_again m input blind got ≡ Ok code → (token : List ℕ) × (token_made m input blind got ≡ Ok token)
  token_follows blind got code e =
      let known = code_known blind got code e in
      (token_bytes input (authenticator m input (unblinded m known.0.by known.1)), token_done blind got known.0.by known.1 known.0.read known.2)

module _ {E S K : Type 0} (m : Model E S K) (epoch : ℕ) (id : List ℕ) where
  -- a walk that ended passed its first item and then the others
  pub walked_first : (step : List ℕ → List ℕ → List ℕ → Result (List ℕ) GroupFault) (i n : ℕ) (seeds blinds gots front all : List ℕ) →
      walked m step epoch id i (suc n) seeds blinds gots front ≡ Ok all →
      (part : List ℕ) × (step (input_under m epoch id (take 64 seeds)) (take m.scalars.width blinds) (take m.element_width gots) ≡ Ok part)
      × (walked m step epoch id (i + 1) n (drop 64 seeds) (drop m.scalars.width blinds) (drop m.element_width gots) (front ++ part) ≡ Ok all)
  unfolding walked
  walked_first step i n seeds blinds gots front all e =
      let first = step (input_under m epoch id (take 64 seeds)) (take m.scalars.width blinds) (take m.element_width gots) in
      let got = then_ok (of_item i first)
      (λ part. walked m step epoch id (i + 1) n (drop 64 seeds) (drop m.scalars.width blinds) (drop m.element_width gots) (front ++ part)) all e in
      (got.0, item_passed i first got.0 got.1, got.2)

  -- and the other way round
  pub walked_suc : (step : List ℕ → List ℕ → List ℕ → Result (List ℕ) GroupFault) (i n : ℕ) (seeds blinds gots front part : List ℕ) →
      step (input_under m epoch id (take 64 seeds)) (take m.scalars.width blinds) (take m.element_width gots) ≡ Ok part →
      walked m step epoch id i (suc n) seeds blinds gots front ≡
      walked m step epoch id (i + 1) n (drop 64 seeds) (drop m.scalars.width blinds) (drop m.element_width gots) (front ++ part)
  unfolding walked
  walked_suc step i n seeds blinds gots front part e =
      ap (λ r. then (of_item i r) (λ x. walked m step epoch id (i + 1) n (drop 64 seeds) (drop m.scalars.width blinds) (drop m.element_width gots) (front ++ x))) e

  pub walked_none : (step : List ℕ → List ℕ → List ℕ → Result (List ℕ) GroupFault) (i : ℕ) (seeds blinds gots front : List ℕ) →
      walked m step epoch id i zero seeds blinds gots front ≡ Ok front
  unfolding walked
  walked_none step i seeds blinds gots front = refl

  -- where the first pass passes every item, the second makes all tokens
  pub tokens_follow : (i n : ℕ) (seeds blinds gots front other codes : List ℕ) → walked m (code_again m) epoch id i n seeds blinds gots front ≡ Ok codes →
      (tokens : List ℕ) × (walked m (token_made m) epoch id i n seeds blinds gots other ≡ Ok tokens)
  tokens_follow i zero seeds blinds gots front other codes e = (other, walked_none (token_made m) i seeds blinds gots other)
  tokens_follow i (suc n) seeds blinds gots front other codes e =
      let one = walked_first (code_again m) i n seeds blinds gots front codes e in
      let token = token_follows m (input_under m epoch id (take 64 seeds)) (take m.scalars.width blinds) (take m.element_width gots) one.0 one.1 in
      let rest = tokens_follow (i + 1) n (drop 64 seeds) (drop m.scalars.width blinds) (drop m.element_width gots) (front ++ one.0) (other ++ token.0) codes one.2 in
      (rest.0, walked_suc (token_made m) i n seeds blinds gots other token.0 token.1 ∙ rest.1)
