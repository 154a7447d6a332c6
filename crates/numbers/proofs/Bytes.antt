-- Numbers in bytes.
use Rattle.std.proofs.Common.{◌≡◌, ℕ, zero, suc, ◌+◌, ◌*◌, ◌/◌, ◌%◌, ◌^◌, ◌<◌, ◌≤◌, true, ltb, List, [], ◌∷◌, ◌++◌, length, get_or, take, sym, refl, ap, ◌∙◌, subst, mod-lt, pow-suc, add-one, arith, lit<, length-append, take_all, w8, Fits}
use native.Mathlib.Nat.{mod-add-div, pow-zero}
use Rattle.std.specs.List.{AllByRecursion}
use Rattle.std.proofs.lemmas.Int.Digits.{number_push, number_more}
use Rattle.std.proofs.lemmas.Nat.{div_below, div-mul-add, mod-mul-add}
use Rattle.std.proofs.lemmas.List.{take_more}
use Rattle.std.proofs.ByRecursion.{All-push, All-get_or}
use Rattle.std.proofs.lemmas.Bool.{ltb-true, lt-ltb, and_from, and_parts}
use Rattle.numbers.specs.Bytes.{read, written, word, are_bytes}

-- the word is the sum of the first 8 bytes, each at its place
pub word_is : (xs : List ℕ) → 8 ≤ length xs →
    get_or xs 0 0 * 72057594037927936 + get_or xs 1 0 * 281474976710656 + get_or xs 2 0 * 1099511627776 + get_or xs 3 0 * 4294967296 + get_or xs 4 0 * 16777216 + get_or xs 5 0 * 65536 + get_or xs 6 0 * 256 + get_or xs 7 0 ≡ word xs
unfolding word
word_is [] h = absurd (omega arith)
word_is (a ∷ []) h = absurd (omega arith)
word_is (a ∷ b ∷ []) h = absurd (omega arith)
word_is (a ∷ b ∷ c ∷ []) h = absurd (omega arith)
word_is (a ∷ b ∷ c ∷ d ∷ []) h = absurd (omega arith)
word_is (a ∷ b ∷ c ∷ d ∷ e ∷ []) h = absurd (omega arith)
word_is (a ∷ b ∷ c ∷ d ∷ e ∷ f ∷ []) h = absurd (omega arith)
word_is (a ∷ b ∷ c ∷ d ∷ e ∷ f ∷ g ∷ []) h = absurd (omega arith)
word_is (a ∷ b ∷ c ∷ d ∷ e ∷ f ∷ g ∷ i ∷ xs) h = omega arith

-- eight bytes read as their sum, each at its place
pub read_eight : (xs : List ℕ) → length xs ≡ 8 →
    get_or xs 0 0 * 72057594037927936 + get_or xs 1 0 * 281474976710656 + get_or xs 2 0 * 1099511627776 + get_or xs 3 0 * 4294967296 + get_or xs 4 0 * 16777216 + get_or xs 5 0 * 65536 + get_or xs 6 0 * 256 + get_or xs 7 0 ≡ read xs
read_eight [] h = absurd (omega arith)
read_eight (a ∷ []) h = absurd (omega arith)
read_eight (a ∷ b ∷ []) h = absurd (omega arith)
read_eight (a ∷ b ∷ c ∷ []) h = absurd (omega arith)
read_eight (a ∷ b ∷ c ∷ d ∷ []) h = absurd (omega arith)
read_eight (a ∷ b ∷ c ∷ d ∷ e ∷ []) h = absurd (omega arith)
read_eight (a ∷ b ∷ c ∷ d ∷ e ∷ f ∷ []) h = absurd (omega arith)
read_eight (a ∷ b ∷ c ∷ d ∷ e ∷ f ∷ g ∷ []) h = absurd (omega arith)
read_eight (a ∷ b ∷ c ∷ d ∷ e ∷ f ∷ g ∷ i ∷ []) h = omega arith
read_eight (a ∷ b ∷ c ∷ d ∷ e ∷ f ∷ g ∷ i ∷ j ∷ xs) h = absurd (omega arith)

pub read_one : (xs : List ℕ) → length xs ≡ 1 → read xs ≡ get_or xs 0 0
read_one [] e = absurd (omega arith)
read_one (a ∷ []) e = omega arith
read_one (a ∷ b ∷ xs) e = absurd (omega arith)

pub read_two : (xs : List ℕ) → length xs ≡ 2 → read xs ≡ get_or xs 0 0 * 256 + get_or xs 1 0
read_two [] e = absurd (omega arith)
read_two (a ∷ []) e = absurd (omega arith)
read_two (a ∷ b ∷ []) e = omega arith
read_two (a ∷ b ∷ c ∷ xs) e = absurd (omega arith)

-- a list of two bytes is written as the number that it reads
pub two_bytes : (xs : List ℕ) → length xs ≡ 2 → xs ≡ get_or xs 0 0 ∷ get_or xs 1 0 ∷ []
two_bytes [] e = absurd (omega arith)
two_bytes (x ∷ []) e = absurd (omega arith)
two_bytes (x ∷ y ∷ []) e = refl
two_bytes (x ∷ y ∷ z ∷ zs) e = absurd (omega arith)

pub length_written : (w n : ℕ) → length (written w n) ≡ w
length_written zero n = refl
length_written (suc w) n =
    let before = length_written w (n / 256) in
    length-append (written w (n / 256)) (n % 256 ∷ []) ∙ omega arith

pub bytes_written : (w n : ℕ) → AllByRecursion (λ b. b < 256) (written w n)
bytes_written zero n = tt
bytes_written (suc w) n = All-push (λ b. b < 256) (written w (n / 256)) (n % 256) (bytes_written w (n / 256)) (mod-lt n {m = 256} (lit< tt))

pub read_written : (w n : ℕ) → n < 256 ^ w → read (written w n) ≡ n
read_written zero n h = omega (arith, pow-zero 256)
read_written (suc w) n h =
    let small : n / 256 < 256 ^ w = div_below n 256 (256 ^ w) (lit< tt) (subst (λ (x : ℕ). n < x) (pow-suc 256 w) h) in
    number_push 256 (written w (n / 256)) (n % 256) ∙ ap (λ (x : ℕ). x * 256 + n % 256) (read_written w (n / 256) small) ∙ omega (arith, mod-add-div n 256)

written_part : (xs : List ℕ) → AllByRecursion (λ b. b < 256) xs → (i : ℕ) → i ≤ length xs → written i (read (take i xs)) ≡ take i xs
written_part xs a zero h = refl
written_part xs a (suc i) h =
    let d = get_or xs i 0 in
    let n = read (take i xs) in
    let small : d < 256 = All-get_or (λ b. b < 256) xs i 0 h a in
    let more : read (take (suc i) xs) ≡ n * 256 + d = ap (λ (k : ℕ). read (take k xs)) (sym (add-one i)) ∙ number_more 256 xs i h in
    ap (λ (x : ℕ). written i (x / 256) ++ (x % 256 ∷ [])) more ∙
    ap (λ (x : ℕ). written i x ++ ((n * 256 + d) % 256 ∷ [])) (div-mul-add n 256 d small) ∙ ap (λ (x : ℕ). written i n ++ (x ∷ [])) (mod-mul-add n 256 d small) ∙
    ap (λ ys. ys ++ (d ∷ [])) (written_part xs a i (omega arith)) ∙ sym (take_more xs i 0 h) ∙ ap (λ (k : ℕ). take k xs) (add-one i)

-- bytes are what their number is written as
pub written_read : (xs : List ℕ) → AllByRecursion (λ b. b < 256) xs → written (length xs) (read xs) ≡ xs
written_read xs a =
    let all = take_all (length xs) xs (omega arith) in
    ap (λ ys. written (length xs) (read ys)) (sym all) ∙ written_part xs a (length xs) (omega arith) ∙ all

-- what a slice of bytes holds are bytes
pub slice_bytes : (xs : List ℕ) → ((i : ℕ) → Fits w8 (get_or xs i 0)) → are_bytes xs ≡ true
slice_bytes [] f = refl
slice_bytes (x ∷ xs) f =
    let small : x < 256 = omega (arith, f 0) in
    and_from (ltb x 256) (are_bytes xs) (lt-ltb x 256 small) (slice_bytes xs (λ i. f (suc i)))

pub bytes_below : (xs : List ℕ) → are_bytes xs ≡ true → AllByRecursion (λ b. b < 256) xs
bytes_below [] e = tt
bytes_below (x ∷ xs) e =
    let both = and_parts (ltb x 256) (are_bytes xs) e in
    (ltb-true x 256 both.0, bytes_below xs both.1)

pub below_bytes : (xs : List ℕ) → AllByRecursion (λ b. b < 256) xs → are_bytes xs ≡ true
below_bytes [] a = refl
below_bytes (x ∷ xs) a = and_from (ltb x 256) (are_bytes xs) (lt-ltb x 256 a.0) (below_bytes xs a.1)
