-- What a client gets from a station that keeps to the steps.
use Rattle.std.specs.Prelude.{◌≡◌, ℕ, ◌*◌, ◌/◌, ◌<◌, ◌≤◌, List, map, length, take, drop, Ok, ◌≢◌}
use Rattle.std.specs.List.{AllByRecursion}
use Rattle.group.specs.Model.{Model}
use Rattle.group.specs.Elements.{null}
use Rattle.group.specs.Theorems.{row}
use Rattle.voprf.specs.Blinding.{public_key, answered}
use Rattle.voprf.specs.Proving.{proved}
use Rattle.messages.specs.Messages.{written_request, written_reply}
use Rattle.token.specs.Tokens.{Good}
use Rattle.client.specs.Batches.{input_of}
use Rattle.client.specs.Blinding.{blind_answer}
use Rattle.client.specs.Finishing.{finish_answer}

-- the token at a place, counted from 0, of tokens in a row
abbrev pub token_at : List ℕ → ℕ → List ℕ
token_at tokens i = take 132 (drop (132 * i) tokens)

module _ {E S K : Type 0} (m : Model E S K) (k : K) (epoch : ℕ) (seeds : List ℕ) where
  -- tokens for n seeds, one for each: it has the input of its seed, and is good under the key and the epoch
  pub record GoodTokens (n : ℕ) (tokens : List ℕ) : Type 0 where
    pub long : length tokens ≡ 132 * n
    pub input : (i : ℕ) → i < n → take 100 (token_at tokens i) ≡ input_of m epoch (public_key m k) (take 64 (drop (64 * i) seeds))
    pub good : (i : ℕ) → i < n → Good m k epoch (token_at tokens i)

  -- What a request that `blind` wrote for the key's public key is: an epoch and 1 to 16 elements, one for each seed,
  -- none of them null. Whoever answers them all with that key, and proves it with whatever nonce, has his reply
  -- accepted by `finish`, given a scratch and an outlet that are long enough, and it gives good tokens.
  pub record Ordered (blinds request : List ℕ) : Type 0 where
    pub items : List E
    pub written : request ≡ written_request m epoch items
    pub counted : length items ≡ length seeds / 64
    pub some : 1 ≤ length items
    pub few : length items ≤ 16
    pub none_null : AllByRecursion (λ b. b ≢ null m) items
    pub accepted : (u : K) (c s : S) → proved m k u (public_key m k) (row m items) (row m (map (answered m k) items)) ≡ Ok (c, s) →
        (scratch outlet : ℕ) → 1024 ≤ scratch → 132 * length items ≤ outlet →
        (tokens : List ℕ)
        × (finish_answer m scratch epoch (length items) (m.code (public_key m k)) seeds blinds (written_reply m epoch (map (answered m k) items) c s) outlet ≡ Ok tokens)
        × GoodTokens (length items) tokens

-- Every request that `blind` writes for the public key of a key is such an order.
abbrev pub HonestReplies : {E S K : Type 0} → Model E S K → Type 0
HonestReplies {E} {S} {K} m =
    (k : K) (scratch epoch : ℕ) (seeds blinds request : List ℕ) (outlet : ℕ) → epoch < 65536 →
    blind_answer m scratch epoch (m.code (public_key m k)) seeds blinds outlet ≡ Ok request → Ordered m k epoch seeds blinds request
