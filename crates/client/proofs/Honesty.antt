-- What a station that keeps to the steps answers is accepted, item by item.
use Rattle.std.proofs.Common.{◌≡◌, ℕ, zero, suc, ◌+◌, ◌*◌, ◌<◌, false, List, [], ◌∷◌, ◌++◌, map, length, take, drop, Ok, Result, sym, refl, ap, ◌∙◌, subst, arith, length-append, length-drop}
use Rattle.std.specs.Option.{ok_or}
use Rattle.std.specs.List.{AllByRecursion}
use Rattle.std.proofs.lemmas.List.{append-nil, append_assoc, take_at, drop_at, drop-drop, length-take-le}
use Rattle.std.proofs.lemmas.Bool.{eq-eqb, ne_eqb, both_ways}
use Rattle.faults.specs.declared.GroupFault.{GroupFault}
use Rattle.faults.specs.declared.GroupFault.TheVariants.{NoElement, NullElement}
use Rattle.faults.specs.declared.BatchFault.{BatchFault}
use Rattle.group.specs.Model.{Model}
use Rattle.group.specs.Elements.{null}
use Rattle.group.specs.Theorems.{row}
use Rattle.group.proofs.Logs.{log_null, log_base}
use Rattle.group.proofs.Laws.{log_zero, only_null, unblinds}
use Rattle.hashing.specs.Hashing.{hash_to_group, key_id, authenticator}
use Rattle.voprf.specs.Blinding.{public_key, blinded, answered, unblinded, direct}
use Rattle.messages.specs.Answers.{ruled}
use Rattle.messages.specs.Laws.{Fitting}
use Rattle.messages.specs.Messages.{Parts, token_bytes, token_input_bytes}
use Rattle.messages.proofs.Tokens.{token_trip}
use Rattle.token.specs.Tokens.{then, is_null, element_of, Good}
use Rattle.client.specs.Batches.{input_under, input_of, sent_code, walked}
use Rattle.client.specs.Finishing.{code_again, token_made}
use Rattle.client.specs.Honest.{token_at, GoodTokens}
use Rattle.client.proofs.Hashes.{key_id_long, authenticator_long}
use Rattle.client.proofs.Following.{Sent, sent_code_known, code_made, token_done, walked_first, walked_suc, walked_none}

none_below : (j : ℕ) → j < zero → ⊥
none_below j h = omega arith

ok_same : (x y : List ℕ) → ◌≡◌ {A = Result (List ℕ) BatchFault} (Ok x) (Ok y) → x ≡ y
ok_same x y e = cc

module _ {E S K : Type 0} (m : Model E S K) where
  not_null : (p : E) → is_null m p ≡ false → p ≡ null m → ⊥
  not_null p f e = both_ways (is_null m p) f (eq-eqb (m.log p) 0 (ap m.log e ∙ log_null m))

  tested : (p : E) → (p ≡ null m → ⊥) → is_null m p ≡ false
  tested p h = ne_eqb (m.log p) 0 (λ z. h (log_zero m p z))

  -- an element that is not the null is read from its code
  pub element_whole : (p : E) → (p ≡ null m → ⊥) → element_of m (m.code p) ≡ Ok p
  unfolding element_of
  element_whole p h =
      ap (λ o. then (ok_or o NoElement) (λ x. ruled ((is_null m x, NullElement) ∷ []) (Ok x))) (m.decoded p)
      ∙ ap (λ b. ruled ((b, NullElement) ∷ []) (Ok p)) (tested p h)

  -- a public key, a blinded input and an answer are not null
  pub public_some : (k : K) → public_key m k ≡ null m → ⊥
  unfolding public_key
  public_some k e =
      let l : m.scalars.number (m.scalars.part k) ≡ 0 = sym (log_base m (m.scalars.part k)) ∙ ap m.log e ∙ log_null m in
      let h = m.scalars.positive k in
      omega arith

  blinded_some : (r : K) (input : List ℕ) → is_null m (hash_to_group m input) ≡ false → blinded m r input ≡ null m → ⊥
  unfolding blinded
  blinded_some r input f e = not_null (hash_to_group m input) f (only_null m r (hash_to_group m input) e)

  answered_some : (k : K) (b : E) → (b ≡ null m → ⊥) → answered m k b ≡ null m → ⊥
  unfolding answered
  answered_some k b h e = h (only_null m k b e)

  -- unblinding an answer gives what the key gives directly
  unblinds_direct : (k r : K) (input : List ℕ) → authenticator m input (unblinded m r (answered m k (blinded m r input))) ≡ direct m k input
  unfolding blinded answered unblinded direct
  unblinds_direct k r input = ap (authenticator m input) (unblinds m r (m.scalars.part k) (hash_to_group m input))

  module _ (k : K) (epoch : ℕ) (small : epoch < 65536) where
    abbrev id : List ℕ
    id = key_id m (public_key m k)

    abbrev parts_of : List ℕ → E → Parts
    parts_of seed u = record {
      kind = m.kind;
      epoch = epoch;
      nonce = take 32 seed;
      context = take 32 (drop 32 seed);
      key_id = id;
      authenticator = authenticator m (input_under m epoch id seed) u;
    }

    fitting : (seed : List ℕ) (u : E) → length seed ≡ 64 → Fitting (parts_of seed u)
    fitting seed u e = record {
      kind = m.kind_fits;
      epoch = small;
      nonce = length-take-le 32 seed (omega arith);
      context = length-take-le 32 (drop 32 seed) (omega (arith, length-drop 32 seed));
      key_id = key_id_long m (public_key m k);
      authenticator = authenticator_long m (input_under m epoch id seed) u;
    }

    abbrev token_of : List ℕ → E → List ℕ
    token_of seed u = token_bytes (input_under m epoch id seed) (authenticator m (input_under m epoch id seed) u)

    token_input_first : (seed : List ℕ) (u : E) → length seed ≡ 64 → take 100 (token_of seed u) ≡ input_under m epoch id seed
    unfolding input_under
    token_input_first seed u e = token_trip.input (parts_of seed u) (fitting seed u e)

    token_long : (seed : List ℕ) (u : E) → length seed ≡ 64 → length (token_of seed u) ≡ 132
    unfolding input_under token_bytes token_input_bytes
    token_long seed u e =
        let f = fitting seed u e in
        let input = token_input_bytes m.kind epoch (take 32 seed) (take 32 (drop 32 seed)) id in
        length-append input (authenticator m input u)
        ∙ omega (arith, f.nonce, f.context, f.key_id, f.authenticator, length-append (take 32 seed) (take 32 (drop 32 seed) ++ id), length-append (take 32 (drop 32 seed)) id)

    -- the token of an item that the key answered is good
    token_good : (seed : List ℕ) (r : K) → length seed ≡ 64 → is_null m (hash_to_group m (input_under m epoch id seed)) ≡ false →
        Good m k epoch (token_of seed (unblinded m r (answered m k (blinded m r (input_under m epoch id seed)))))
    unfolding input_under
    token_good seed r e f =
        let input = input_under m epoch id seed in
        let u = unblinded m r (answered m k (blinded m r input)) in
        let first = token_input_first seed u e in
        record {
          parts = parts_of seed u;
          reads = token_trip.again (parts_of seed u) (fitting seed u e);
          kind_fits = refl;
          epoch_fits = refl;
          key_fits = refl;
          mapped = λ z. not_null (hash_to_group m input) f (sym (ap (hash_to_group m) first) ∙ z);
          authentic = unblinds_direct k r input ∙ sym (ap (direct m k) first);
        }

    -- what comes of items that were sent, once the key has answered them
    pub record Answered (i n : ℕ) (seeds blinds front codes : List ℕ) : Type 0 where
      pub items : List E
      pub counted : length items ≡ n
      pub rowed : codes ≡ front ++ row m items
      pub none_null : AllByRecursion (λ b. b ≡ null m → ⊥) items
      pub tokens : List ℕ
      pub again : (first : List ℕ) → walked m (code_again m) epoch id i n seeds blinds (row m (map (answered m k) items)) first ≡ Ok (first ++ row m items)
      pub made : (first : List ℕ) → walked m (token_made m) epoch id i n seeds blinds (row m (map (answered m k) items)) first ≡ Ok (first ++ tokens)
      pub good : GoodTokens m k epoch seeds n tokens

    input_each : (n : ℕ) (seeds token tokens : List ℕ) → take 100 token ≡ input_under m epoch id (take 64 seeds) → GoodTokens m k epoch (drop 64 seeds) n tokens →
        ((i : ℕ) → token_at (token ++ tokens) (suc i) ≡ token_at tokens i) → ((i : ℕ) → take 64 (drop (64 * i) (drop 64 seeds)) ≡ take 64 (drop (64 * suc i) seeds)) →
        token_at (token ++ tokens) 0 ≡ token → (i : ℕ) → i < suc n → take 100 (token_at (token ++ tokens) i) ≡ input_of m epoch (public_key m k) (take 64 (drop (64 * i) seeds))
    input_each n seeds token tokens first rest placed seeded here zero h = ap (take 100) here ∙ first
    input_each n seeds token tokens first rest placed seeded here (suc i) h =
        ap (take 100) (placed i) ∙ rest.input i (omega arith) ∙ ap (input_under m epoch id) (seeded i)

    good_each : (n : ℕ) (seeds token tokens : List ℕ) → Good m k epoch token → GoodTokens m k epoch (drop 64 seeds) n tokens →
        ((i : ℕ) → token_at (token ++ tokens) (suc i) ≡ token_at tokens i) → token_at (token ++ tokens) 0 ≡ token →
        (i : ℕ) → i < suc n → Good m k epoch (token_at (token ++ tokens) i)
    good_each n seeds token tokens good rest placed here zero h = subst (Good m k epoch) (sym here) good
    good_each n seeds token tokens good rest placed here (suc i) h = subst (Good m k epoch) (sym (placed i)) (rest.good i (omega arith))

    -- one token more
    more_good : (n : ℕ) (seeds token tokens : List ℕ) → length token ≡ 132 → take 100 token ≡ input_under m epoch id (take 64 seeds) → Good m k epoch token →
        GoodTokens m k epoch (drop 64 seeds) n tokens → GoodTokens m k epoch seeds (suc n) (token ++ tokens)
    more_good n seeds token tokens long first good rest =
        let placed : (i : ℕ) → token_at (token ++ tokens) (suc i) ≡ token_at tokens i =
        λ i.
        let far : 132 * suc i ≡ 132 + 132 * i = omega arith in
        ap (take 132) (ap (λ (j : ℕ). drop j (token ++ tokens)) far ∙ sym (drop-drop (132 * i) 132 (token ++ tokens)) ∙ ap (drop (132 * i)) (drop_at token tokens 132 long)) in
        let seeded : (i : ℕ) → take 64 (drop (64 * i) (drop 64 seeds)) ≡ take 64 (drop (64 * suc i) seeds) =
        λ i. let far : 64 + 64 * i ≡ 64 * suc i = omega arith in ap (take 64) (drop-drop (64 * i) 64 seeds ∙ ap (λ (j : ℕ). drop j seeds) far) in
        let here : token_at (token ++ tokens) 0 ≡ token = take_at token tokens 132 long in
        record {
          long = length-append token tokens ∙ (let l = rest.long in omega arith);
          input = input_each n seeds token tokens first rest placed seeded here;
          good = good_each n seeds token tokens good rest placed here;
        }

    -- no items
    none_answered : (i : ℕ) (seeds blinds front codes : List ℕ) → codes ≡ front → Answered i zero seeds blinds front codes
    none_answered i seeds blinds front codes e = record {
      items = [];
      counted = refl;
      rowed = e ∙ sym (append-nil front);
      none_null = tt;
      tokens = [];
      again = λ first. walked_none m epoch id (code_again m) i seeds blinds [] first ∙ ap (λ (l : List ℕ). Ok l) (sym (append-nil first));
      made = λ first. walked_none m epoch id (token_made m) i seeds blinds [] first ∙ ap (λ (l : List ℕ). Ok l) (sym (append-nil first));
      good = record { long = refl; input = λ j h. absurd (none_below j h); good = λ j h. absurd (none_below j h) };
    }

    -- one item more, in front of others
    one_answered : (i n : ℕ) (seeds blinds front part codes : List ℕ) → length seeds ≡ 64 * suc n →
        Sent m (input_under m epoch id (take 64 seeds)) (take m.scalars.width blinds) part →
        Answered (i + 1) n (drop 64 seeds) (drop m.scalars.width blinds) (front ++ part) codes → Answered i (suc n) seeds blinds front codes
    one_answered i n seeds blinds front part codes long sent rest =
        let seed = take 64 seeds in
        let input = input_under m epoch id seed in
        let blind = take m.scalars.width blinds in
        let r = sent.by in
        let b = blinded m r input in
        let e = answered m k b in
        let u = unblinded m r e in
        let token = token_of seed u in
        let gots = row m (map (answered m k) rest.items) in
        let whole : length seed ≡ 64 = length-take-le 64 seeds (omega arith) in
        let some = blinded_some r input sent.mapped in
        let first : take m.element_width (m.code e ++ gots) ≡ m.code e = take_at (m.code e) gots m.element_width (m.coded e) in
        let later : drop m.element_width (m.code e ++ gots) ≡ gots = drop_at (m.code e) gots m.element_width (m.coded e) in
        let read : element_of m (take m.element_width (m.code e ++ gots)) ≡ Ok e = ap (element_of m) first ∙ element_whole e (answered_some k b some) in
        let onward : (step : List ℕ → List ℕ → List ℕ → Result (List ℕ) GroupFault) (x y : List ℕ) →
        walked m step epoch id (i + 1) n (drop 64 seeds) (drop m.scalars.width blinds) (drop m.element_width (m.code e ++ gots)) (x ++ y) ≡
        walked m step epoch id (i + 1) n (drop 64 seeds) (drop m.scalars.width blinds) gots (x ++ y) =
        λ step x y. ap (λ (l : List ℕ). walked m step epoch id (i + 1) n (drop 64 seeds) (drop m.scalars.width blinds) l (x ++ y)) later in
        record {
          items = b ∷ rest.items;
          counted = ap suc rest.counted;
          rowed = rest.rowed ∙ append_assoc front part (row m rest.items) ∙ ap (λ (l : List ℕ). front ++ (l ++ row m rest.items)) sent.coded;
          none_null = (some, rest.none_null);
          tokens = token ++ rest.tokens;
          again = λ x.
              walked_suc m epoch id (code_again m) i n seeds blinds (m.code e ++ gots) x part (code_made m input blind (take m.element_width (m.code e ++ gots)) part sent e read)
              ∙ onward (code_again m) x part ∙ rest.again (x ++ part)
              ∙ ap (λ (l : List ℕ). Ok l) (append_assoc x part (row m rest.items) ∙ ap (λ (l : List ℕ). x ++ (l ++ row m rest.items)) sent.coded);
          made = λ x.
              walked_suc m epoch id (token_made m) i n seeds blinds (m.code e ++ gots) x token (token_done m input blind (take m.element_width (m.code e ++ gots)) r e sent.read read)
              ∙ onward (token_made m) x token ∙ rest.made (x ++ token)
              ∙ ap (λ (l : List ℕ). Ok l) (append_assoc x token rest.tokens);
          good = more_good n seeds token rest.tokens (token_long seed u whole) (token_input_first seed u whole) (token_good seed r whole sent.mapped) rest.good;
        }

    pub all_answered : (i n : ℕ) (seeds blinds gots front codes : List ℕ) → length seeds ≡ 64 * n →
        walked m (sent_code m) epoch id i n seeds blinds gots front ≡ Ok codes → Answered i n seeds blinds front codes
    all_answered i zero seeds blinds gots front codes long e =
        let same : codes ≡ front = ok_same codes front (sym e ∙ walked_none m epoch id (sent_code m) i seeds blinds gots front) in none_answered i seeds blinds front codes same
    all_answered i (suc n) seeds blinds gots front codes long e =
        let one = walked_first m epoch id (sent_code m) i n seeds blinds gots front codes e in
        let sent = sent_code_known m (input_under m epoch id (take 64 seeds)) (take m.scalars.width blinds) (take m.element_width gots) one.0 one.1 in
        one_answered i n seeds blinds front one.0 codes long sent
        (all_answered (i + 1) n (drop 64 seeds) (drop m.scalars.width blinds) (drop m.element_width gots) (front ++ one.0) codes (omega (arith, length-drop 64 seeds)) one.2)
