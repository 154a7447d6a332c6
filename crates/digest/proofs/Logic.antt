-- The two functions that choose bit by bit, in the forms that take fewest operations.
use Rattle.std.proofs.Common.{◌≡◌, ℕ, zero, suc, ◌-◌, ◌*◌, ◌/◌, ◌%◌, ◌^◌, ◌<◌, refl, ap, ◌∙◌, pow-suc, div-add-mod', arith, w32}
use Rattle.std.specs.Int.{rotate_right}
use lib.Bits.{bit_and, bit_or, bit_xor, and_shr, xor_shr, and_mod, xor_mod}
use Rattle.digest.specs.Words.{majority, Turns, rotr}

half_and : (a b : ℕ) → bit_and a b / 2 ≡ bit_and (a / 2) (b / 2)
half_and a b = and_shr a b 1

half_xor : (a b : ℕ) → bit_xor a b / 2 ≡ bit_xor (a / 2) (b / 2)
half_xor a b = xor_shr a b 1

last_and : (a b : ℕ) → bit_and a b % 2 ≡ bit_and (a % 2) (b % 2)
last_and a b = and_mod a b 1

last_xor : (a b : ℕ) → bit_xor a b % 2 ≡ bit_xor (a % 2) (b % 2)
last_xor a b = xor_mod a b 1

-- a number is known by its half and its last bit
by_digits : {a b : ℕ} → a / 2 ≡ b / 2 → a % 2 ≡ b % 2 → a ≡ b
by_digits {a} {b} hi lo = omega (arith, div-add-mod' a 2, div-add-mod' b 2)

majority_bit : (x y z : ℕ) → x < 2 → y < 2 → z < 2
    → bit_xor (bit_and (bit_xor x y) (bit_xor y z)) y ≡ bit_xor (bit_xor (bit_and x y) (bit_and x z)) (bit_and y z)
majority_bit zero zero zero hx hy hz = refl
majority_bit zero zero (suc zero) hx hy hz = refl
majority_bit zero (suc zero) zero hx hy hz = refl
majority_bit zero (suc zero) (suc zero) hx hy hz = refl
majority_bit (suc zero) zero zero hx hy hz = refl
majority_bit (suc zero) zero (suc zero) hx hy hz = refl
majority_bit (suc zero) (suc zero) zero hx hy hz = refl
majority_bit (suc zero) (suc zero) (suc zero) hx hy hz = refl
majority_bit (suc (suc x)) y z hx hy hz = absurd (omega arith)
majority_bit zero (suc (suc y)) z hx hy hz = absurd (omega arith)
majority_bit (suc zero) (suc (suc y)) z hx hy hz = absurd (omega arith)
majority_bit zero zero (suc (suc z)) hx hy hz = absurd (omega arith)
majority_bit zero (suc zero) (suc (suc z)) hx hy hz = absurd (omega arith)
majority_bit (suc zero) zero (suc (suc z)) hx hy hz = absurd (omega arith)
majority_bit (suc zero) (suc zero) (suc (suc z)) hx hy hz = absurd (omega arith)

pub majority_short : (k x y z : ℕ) → x < 2 ^ k → y < 2 ^ k → z < 2 ^ k
    → bit_xor (bit_and (bit_xor x y) (bit_xor y z)) y ≡ majority x y z
unfolding majority
majority_short zero x y z hx hy hz =
    let ex : x ≡ 0 = omega arith in
    let ey : y ≡ 0 = omega arith in
    rw (ex, ey)
majority_short (suc k) x y z hx hy hz =
    let p = pow-suc 2 k in
    let ih = majority_short k (x / 2) (y / 2) (z / 2) (omega arith) (omega arith) (omega arith) in
    by_digits (simp (half_and, half_xor) ih)
    (simp (last_and, last_xor) (majority_bit (x % 2) (y % 2) (z % 2) (omega arith) (omega arith) (omega arith)))

choice_bit : (x y z : ℕ) → x < 2 → y < 2 → z < 2
    → bit_xor (bit_and (bit_xor y z) x) z ≡ bit_xor (bit_and x y) (bit_and (1 - x) z)
choice_bit zero zero zero hx hy hz = refl
choice_bit zero zero (suc zero) hx hy hz = refl
choice_bit zero (suc zero) zero hx hy hz = refl
choice_bit zero (suc zero) (suc zero) hx hy hz = refl
choice_bit (suc zero) zero zero hx hy hz = refl
choice_bit (suc zero) zero (suc zero) hx hy hz = refl
choice_bit (suc zero) (suc zero) zero hx hy hz = refl
choice_bit (suc zero) (suc zero) (suc zero) hx hy hz = refl
choice_bit (suc (suc x)) y z hx hy hz = absurd (omega arith)
choice_bit zero (suc (suc y)) z hx hy hz = absurd (omega arith)
choice_bit (suc zero) (suc (suc y)) z hx hy hz = absurd (omega arith)
choice_bit zero zero (suc (suc z)) hx hy hz = absurd (omega arith)
choice_bit zero (suc zero) (suc (suc z)) hx hy hz = absurd (omega arith)
choice_bit (suc zero) zero (suc (suc z)) hx hy hz = absurd (omega arith)
choice_bit (suc zero) (suc zero) (suc (suc z)) hx hy hz = absurd (omega arith)

pub choice_short : (k x y z : ℕ) → x < 2 ^ k → y < 2 ^ k → z < 2 ^ k
    → bit_xor (bit_and (bit_xor y z) x) z ≡ bit_xor (bit_and x y) (bit_and ((2 ^ k - 1) - x) z)
choice_short zero x y z hx hy hz =
    let ex : x ≡ 0 = omega arith in
    let ey : y ≡ 0 = omega arith in
    let ez : z ≡ 0 = omega arith in
    rw (ex, ey, ez)
choice_short (suc k) x y z hx hy hz =
    let p = pow-suc 2 k in
    let ih = choice_short k (x / 2) (y / 2) (z / 2) (omega arith) (omega arith) (omega arith) in
    let high : ((2 ^ suc k - 1) - x) / 2 ≡ (2 ^ k - 1) - x / 2 = omega arith in
    let low : ((2 ^ suc k - 1) - x) % 2 ≡ 1 - x % 2 = omega arith in
    by_digits (simp (half_and, half_xor, high) ih)
    (simp (last_and, last_xor, low) (choice_bit (x % 2) (y % 2) (z % 2) (omega arith) (omega arith) (omega arith)))

-- a word that is turned right by 1 to 31 places
pub rotated : (n x : ℕ) → Turns n → rotate_right w32 x n ≡ rotr n x
rotated n x t =
    let places : n % 32 ≡ n = omega (arith, t.1) in
    let back : (32 - n) % 32 ≡ 32 - n = omega (arith, t.0) in
    ap (λ (k : ℕ). bit_or (x / 2 ^ k) ((x * 2 ^ ((32 - k) % 32)) % 2 ^ 32)) places
    ∙ ap (λ (k : ℕ). bit_or (x / 2 ^ n) ((x * 2 ^ k) % 2 ^ 32)) back
