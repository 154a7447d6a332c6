-- The chunks of a list of bytes: those of four are the words of a block, those of 64 are blocks.
use Rattle.std.proofs.Common.{◌≡◌, ℕ, zero, suc, ◌+◌, ◌*◌, ◌<◌, List, get_or, take, drop, sym, refl, ap, ◌∙◌, mul-suc, arith}
use Rattle.std.proofs.lemmas.List.{drop-drop, get_or-take, get_or-drop}
use Rattle.std.specs.List.{fold}
use Rattle.std.specs.Simd.{first_chunks}
use Rattle.digest.specs.Words.{word_at}
use Rattle.digest.specs.Sha256.{compressed, chained}

-- the chunk at place i
pub chunk_at : (n k : ℕ) (xs none : List ℕ) (i : ℕ) → i < k → get_or (first_chunks n k xs) i none ≡ take n (drop (n * i) xs)
chunk_at n zero xs none i h = absurd (omega arith)
chunk_at n (suc k) xs none zero h = ap (λ (m : ℕ). take n (drop m xs)) (let none_before : 0 ≡ n * 0 = omega arith in none_before)
chunk_at n (suc k) xs none (suc i) h =
    chunk_at n k (drop n xs) none i (omega arith) ∙ ap (λ (ys : List ℕ). take n ys) (drop-drop (n * i) n xs) ∙ ap (λ (m : ℕ). take n (drop m xs)) (let more : n + n * i ≡ n * suc i = omega (arith, mul-suc n i) in more)

-- what stands in a chunk stands in the list
pub in_chunk : (n : ℕ) (xs chunk : List ℕ) (i j : ℕ) → chunk ≡ take n (drop (n * i) xs) → j < n → get_or chunk j 0 ≡ get_or xs (n * i + j) 0
in_chunk n xs chunk i j e h =
    ap (λ (l : List ℕ). get_or l j 0) e ∙ get_or-take n (drop (n * i) xs) j 0 h ∙ get_or-drop (n * i) xs j 0

-- a chunk of four bytes reads as the word at its place
pub word_of : (block bytes : List ℕ) (t : ℕ) → bytes ≡ take 4 (drop (4 * t) block)
    → get_or bytes 0 0 * 16777216 + get_or bytes 1 0 * 65536 + get_or bytes 2 0 * 256 + get_or bytes 3 0 ≡ word_at block (4 * t)
word_of block bytes t e =
    let a : get_or bytes 0 0 ≡ get_or block (4 * t) 0 = in_chunk 4 block bytes t 0 e (omega arith) ∙ ap (λ (k : ℕ). get_or block k 0) (omega arith) in
    let b = in_chunk 4 block bytes t 1 e (omega arith) in
    let c = in_chunk 4 block bytes t 2 e (omega arith) in
    let d = in_chunk 4 block bytes t 3 e (omega arith) in
    cc

-- one block, and then n more
chained_first : (s bytes : List ℕ) (n : ℕ) → chained s (suc n) bytes ≡ chained (compressed s (take 64 bytes)) n (drop 64 bytes)
unfolding chained
chained_first s bytes zero = refl
chained_first s bytes (suc n) =
    ap (λ (v : List ℕ). compressed v (take 64 (drop (64 * suc n) bytes))) (chained_first s bytes n)
    ∙ ap (λ (ys : List ℕ). compressed (chained (compressed s (take 64 bytes)) n (drop 64 bytes)) (take 64 ys)) (ap (λ (m : ℕ). drop m bytes) (let more : 64 * suc n ≡ 64 + 64 * n = omega arith in more) ∙ sym (drop-drop (64 * n) 64 bytes))

-- the blocks folded into the hash value, one after the other
pub folded : (s bytes : List ℕ) (n : ℕ) → fold compressed s (first_chunks 64 n bytes) ≡ chained s n bytes
unfolding chained
folded s bytes zero = refl
folded s bytes (suc n) = folded (compressed s (take 64 bytes)) (drop 64 bytes) n ∙ sym (chained_first s bytes n)
