-- SHA-256 over whole bytes: FIPS 180-4, 5.2.1, 6.2.1 and 6.2.2.
use Rattle.std.specs.Prelude.{ℕ, zero, suc, ◌+◌, ◌*◌, ◌/◌, cond, List, [], ◌∷◌, ◌++◌, map, length, take, drop, Ok, Err, Result, nat_lt, slice_index, slice_index_or}
use Rattle.std.specs.List.{flat_map, range_with_len}
use Rattle.faults.specs.declared.WireFault.{WireFault}
use Rattle.faults.specs.declared.WireFault.TheVariants.{WrongLength}
use Rattle.digest.specs.declared.compress.Working.{Working}
use Rattle.digest.specs.Constants.{round_constants, initial}
use Rattle.digest.specs.Words.{◌⊞◌, choice, majority, Σ₀, Σ₁, σ₀, σ₁, word_at, word_bytes}
use Rattle.digest.specs.Padding.{padding, padded}

-- the 16 words of a block
unfoldable pub block_words : List ℕ → List ℕ
block_words block = map (λ t. word_at block (4 * t)) (range_with_len 0 16)

-- the word that follows n words of the message schedule
abbrev pub next_word : List ℕ → ℕ → ℕ
next_word w n = σ₁ (slice_index w (n + 14)) ⊞ slice_index_or w (n + 9) 0 ⊞ σ₀ (slice_index w (n + 1)) ⊞ slice_index_or w n 0

-- n words more than the block's own
unfoldable pub grown : List ℕ → ℕ → List ℕ
grown block zero = block_words block
grown block (suc n) = grown block n ++ next_word (grown block n) n ∷ []

-- the message schedule of a block: 64 words
abbrev pub schedule : List ℕ → List ℕ
schedule block = grown block 48

-- the eight working variables from a hash value
abbrev pub working : List ℕ → Working
working s = record {
  a = slice_index s 0;
  b = slice_index s 1;
  c = slice_index s 2;
  d = slice_index s 3;
  e = slice_index s 4;
  f = slice_index s 5;
  g = slice_index s 6;
  h = slice_index s 7;
}

-- one round with its constant and its word of the schedule
unfoldable pub stepped : Working → ℕ → ℕ → Working
stepped v k w =
    let t1 = v.h ⊞ Σ₁ v.e ⊞ choice v.e v.f v.g ⊞ k ⊞ w in
    let t2 = Σ₀ v.a ⊞ majority v.a v.b v.c in
    record { a = t1 ⊞ t2; b = v.a; c = v.b; d = v.c; e = v.d ⊞ t1; f = v.e; g = v.f; h = v.g }

-- the first n rounds
unfoldable pub rounds : List ℕ → ℕ → Working → Working
rounds w zero v = v
rounds w (suc n) v = stepped (rounds w n v) (slice_index round_constants n) (slice_index w n)

-- the working variables added to the hash value
abbrev pub added : List ℕ → Working → List ℕ
added s v =
    (slice_index_or s 0 0 ⊞ v.a) ∷ (slice_index_or s 1 0 ⊞ v.b) ∷ (slice_index_or s 2 0 ⊞ v.c) ∷ (slice_index_or s 3 0 ⊞ v.d)
    ∷ (slice_index_or s 4 0 ⊞ v.e) ∷ (slice_index_or s 5 0 ⊞ v.f) ∷ (slice_index_or s 6 0 ⊞ v.g) ∷ (slice_index_or s 7 0 ⊞ v.h) ∷ []

-- the hash value after a block
unfoldable pub compressed : List ℕ → List ℕ → List ℕ
compressed s block = added s (rounds (schedule block) 64 (working s))

-- the hash value after n blocks of 64 bytes from the front
unfoldable pub chained : List ℕ → ℕ → List ℕ → List ℕ
chained s zero bytes = s
chained s (suc n) bytes = compressed (chained s n bytes) (take 64 (drop (64 * n) bytes))

-- the hash value after the bytes that follow the last whole block, and the padding
abbrev pub closed : List ℕ → List ℕ → ℕ → List ℕ
closed s rest total = chained s (length (rest ++ padding total) / 64) (rest ++ padding total)

-- the hash value after all blocks of the padded message, as 32 bytes
abbrev pub sha256 : List ℕ → List ℕ
sha256 message = flat_map word_bytes (chained initial (length (padded message) / 64) (padded message))

-- what the call answers: a message of more than 4,096 bytes is refused
abbrev pub digested : List ℕ → Result (List ℕ) WireFault
digested message = cond (nat_lt 4096 (length message)) (Err WrongLength) (Ok (sha256 message))
