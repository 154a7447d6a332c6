-- Hash values over bytes that are put together from parts.
use Rattle.std.proofs.Common.{◌≡◌, ℕ, zero, suc, ◌+◌, ◌*◌, ◌/◌, ◌≤◌, List, ◌++◌, length, take, drop, sym, refl, ap, ◌∙◌, append_assoc, add-zero, add-suc, mul-suc, mul-add, arith}
use Rattle.std.proofs.lemmas.List.{length-append, take-append-le, drop-append-le, drop_at, take-append-drop, length-take-le, length-drop, drop-drop}
use Rattle.digest.specs.Padding.{padding, padded}
use Rattle.digest.specs.Sha256.{compressed, chained, closed}

-- the first n blocks of a longer list are those of its front
pub chained_front : (s a b : List ℕ) (n : ℕ) → 64 * n ≤ length a → chained s n (a ++ b) ≡ chained s n a
unfolding chained
chained_front s a b zero h = refl
chained_front s a b (suc n) h =
    let less : 64 * n + 64 ≤ length a = omega (arith, mul-suc 64 n) in
    let e = chained_front s a b n (omega arith) in
    let d : drop (64 * n) (a ++ b) ≡ drop (64 * n) a ++ b = drop-append-le (64 * n) a b (omega arith) in
    let t : take 64 (drop (64 * n) a ++ b) ≡ take 64 (drop (64 * n) a) =
    take-append-le 64 (drop (64 * n) a) b (omega (arith, length-drop (64 * n) a)) in
    cc

-- the blocks of a, and then those of b
pub chained_append : (s a b : List ℕ) (n k : ℕ) → length a ≡ 64 * n → chained s (n + k) (a ++ b) ≡ chained (chained s n a) k b
unfolding chained
chained_append s a b n zero h = ap (λ (i : ℕ). chained s i (a ++ b)) (add-zero n) ∙ chained_front s a b n (omega arith)
chained_append s a b n (suc k) h =
    let e = chained_append s a b n k h in
    let i : n + suc k ≡ suc (n + k) = add-suc n k in
    let place : 64 * (n + k) ≡ length a + 64 * k = omega (arith, mul-add 64 n k) in
    let d : drop (64 * (n + k)) (a ++ b) ≡ drop (64 * k) b =
    ap (λ (p : ℕ). drop p (a ++ b)) place ∙ sym (drop-drop (64 * k) (length a) (a ++ b))
    ∙ ap (drop (64 * k)) (drop_at a b (length a) refl) in
    ap (λ (j : ℕ). chained s j (a ++ b)) i
    ∙ ap (λ (v : List ℕ). compressed v (take 64 (drop (64 * (n + k)) (a ++ b)))) e
    ∙ ap (λ (v : List ℕ). compressed (chained (chained s n a) k b) (take 64 v)) d

-- a message's hash value by its whole blocks and by what follows them
pub closed_whole : (s m : List ℕ) (n : ℕ) → n ≡ length m / 64
    → chained s (length (padded m) / 64) (padded m) ≡ closed (chained s n m) (drop (64 * n) m) (length m)
closed_whole s m n e =
    let front : 64 * n ≤ length m = omega arith in
    let a = take (64 * n) m in
    let b = drop (64 * n) m in
    let p = padding (length m) in
    let la : length a ≡ 64 * n = length-take-le (64 * n) m front in
    let split : a ++ b ≡ m = take-append-drop (64 * n) m in
    let whole : padded m ≡ a ++ (b ++ p) = ap (λ (x : List ℕ). x ++ p) (sym split) ∙ append_assoc a b p in
    let many : length (a ++ (b ++ p)) / 64 ≡ n + length (b ++ p) / 64 =
    omega (arith, length-append a (b ++ p)) in
    ap (λ (x : List ℕ). chained s (length x / 64) x) whole
    ∙ ap (λ (i : ℕ). chained s i (a ++ (b ++ p))) many
    ∙ chained_append s a (b ++ p) n (length (b ++ p) / 64) la
    ∙ ap (λ (v : List ℕ). chained v (length (b ++ p) / 64) (b ++ p))
    (sym (chained_front s a b n (omega arith)) ∙ ap (chained s n) split)
