-- A digest has 32 bytes, and so have a key id and an authenticator.
use Rattle.std.proofs.Common.{◌≡◌, ℕ, zero, suc, ◌*◌, ◌/◌, List, [], ◌∷◌, ◌++◌, length, codes, refl, ap, ◌∙◌, arith}
use Rattle.std.specs.List.{flat_map}
use Rattle.numbers.specs.Bytes.{two_bytes}
use Rattle.digest.specs.Constants.{initial}
use Rattle.digest.specs.Padding.{padded}
use Rattle.digest.specs.Words.{word_bytes}
use Rattle.digest.specs.Sha256.{compressed, chained, sha256}
use Rattle.group.specs.Model.{Model}
use Rattle.hashing.specs.Hashing.{framed, key_id, authenticator}

words_long : (ws : List ℕ) → length (flat_map word_bytes ws) ≡ 4 * length ws
words_long [] = refl
words_long (w ∷ ws) = let ih = words_long ws in omega arith

chained_long : (s : List ℕ) → length s ≡ 8 → (n : ℕ) (bytes : List ℕ) → length (chained s n bytes) ≡ 8
unfolding chained compressed
chained_long s e zero bytes = e
chained_long s e (suc n) bytes = refl

digest_long : (message : List ℕ) → length (sha256 message) ≡ 32
digest_long message =
    let words = chained initial (length (padded message) / 64) (padded message) in
    words_long words ∙ ap (λ (k : ℕ). 4 * k) (chained_long initial refl (length (padded message) / 64) (padded message))

module _ {E S K : Type 0} (m : Model E S K) where
  pub key_id_long : (pk : E) → length (key_id m pk) ≡ 32
  unfolding key_id
  key_id_long pk = digest_long (m.code pk)

  pub authenticator_long : (input : List ℕ) (u : E) → length (authenticator m input u) ≡ 32
  unfolding authenticator
  authenticator_long input u = digest_long (two_bytes (length input) ++ (input ++ (framed m u ++ codes "Finalize")))
