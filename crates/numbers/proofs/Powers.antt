-- Powers modulo p, and the logarithm in a cycle of powers.
use Rattle.std.proofs.Common.{◌≡◌, ℕ, zero, suc, ◌+◌, ◌-◌, ◌*◌, ◌/◌, ◌%◌, ◌^◌, ◌<◌, ◌≤◌, true, T, eqb, List, [], ◌∷◌, length, get_or, sym, ap, ◌∙◌, subst, le_of_suc-le-suc, not-suc-le-zero, mod-lt, mod-eq_of_lt, mul_assoc, mul_comm, one-mul, pow-suc, mul-zero, mul-one, mul-suc, arith, eqb→eq, pow-add, eq-eqb}
use native.Mathlib.Decide.{dec_lt}
use Rattle.std.proofs.lemmas.Bool.{eqb-true, and_parts}
use native.Mathlib.Nat.{pow-zero, mod-add-div, mul-mul-mul_comm, pow-succ'}
use Rattle.numbers.specs.Cycle.{Member, exponent, Cycle, stepwise, are_powers}
use Rattle.numbers.proofs.Sought.{found}
use Rattle.numbers.proofs.Mod.{mod_mul_left, mod_mul_right, half_odd, half_even}

pub pow_mul : (x n m : ℕ) → (x ^ n) ^ m ≡ x ^ (n * m)
pow_mul x n zero = pow-zero (x ^ n) ∙ sym (ap (λ (k : ℕ). x ^ k) (mul-zero n) ∙ pow-zero x)
pow_mul x n (suc m) =
    pow-suc (x ^ n) m ∙ ap (λ (y : ℕ). y * x ^ n) (pow_mul x n m) ∙ sym (pow-add x (n * m) n) ∙ ap (λ (k : ℕ). x ^ k) (sym (mul-suc n m))

pub pow_mod : (p x m : ℕ) → (x % p) ^ m % p ≡ x ^ m % p
pow_mod p x zero = ap (λ (y : ℕ). y % p) (pow-zero (x % p) ∙ sym (pow-zero x))
pow_mod p x (suc m) =
    ap (λ (y : ℕ). y % p) (pow-suc (x % p) m) ∙ mod_mul_right ((x % p) ^ m) x p ∙ sym (mod_mul_left ((x % p) ^ m) x p) ∙
    ap (λ (y : ℕ). (y * x) % p) (pow_mod p x m) ∙ mod_mul_left (x ^ m) x p ∙ ap (λ (y : ℕ). y % p) (sym (pow-suc x m))

-- what is one may be left out of a product
pub one_left : (p a b : ℕ) → a % p ≡ 1 → (a * b) % p ≡ b % p
one_left p a b e = sym (mod_mul_left a b p) ∙ ap (λ (x : ℕ). (x * b) % p) e ∙ ap (λ (x : ℕ). x % p) (one-mul b)

pub one_pow : (p a m : ℕ) → 1 < p → a % p ≡ 1 → a ^ m % p ≡ 1
one_pow p a zero h e = ap (λ (x : ℕ). x % p) (pow-zero a) ∙ mod-eq_of_lt h
one_pow p a (suc m) h e =
    ap (λ (x : ℕ). x % p) (pow-suc a m) ∙ one_left p (a ^ m) a (one_pow p a m h e) ∙ e

pub pow_sum : (p g i j : ℕ) → ((g ^ i % p) * (g ^ j % p)) % p ≡ g ^ (i + j) % p
pow_sum p g i j = mod_mul_left (g ^ i) (g ^ j % p) p ∙ mod_mul_right (g ^ i) (g ^ j) p ∙ ap (λ (x : ℕ). x % p) (sym (pow-add g i j))

pub mul_pow : (a b n : ℕ) → (a * b) ^ n ≡ a ^ n * b ^ n
mul_pow a b zero = pow-zero (a * b) ∙ sym (ap (λ (x : ℕ). x * b ^ 0) (pow-zero a) ∙ ap (λ (x : ℕ). 1 * x) (pow-zero b))
mul_pow a b (suc n) =
    pow-suc (a * b) n ∙ ap (λ (x : ℕ). x * (a * b)) (mul_pow a b n) ∙ mul-mul-mul_comm (a ^ n) (b ^ n) a b ∙
    ap (λ (x : ℕ). x * (b ^ n * b)) (sym (pow-suc a n)) ∙ ap (λ (x : ℕ). a ^ suc n * x) (sym (pow-suc b n))

-- one turn of squaring
squared : (p r d h : ℕ) → (r * ((d * d) % p) ^ h) % p ≡ (r * d ^ (h + h)) % p
squared p r d h =
    sym (mod_mul_right r (((d * d) % p) ^ h) p) ∙ ap (λ (x : ℕ). (r * x) % p) (pow_mod p (d * d) h) ∙ mod_mul_right r ((d * d) ^ h) p ∙
    ap (λ (x : ℕ). (r * x) % p) (mul_pow d d h ∙ sym (pow-add d h h))

pub raise_odd : (p r d k : ℕ) → k % 2 ≡ 1 → ((r * d) % p * ((d * d) % p) ^ (k / 2)) % p ≡ (r * d ^ k) % p
raise_odd p r d k e =
    let all : suc (k / 2 + k / 2) ≡ k = omega (arith, half_odd k e) in
    mod_mul_left (r * d) (((d * d) % p) ^ (k / 2)) p ∙ squared p (r * d) d (k / 2) ∙
    ap (λ (x : ℕ). x % p) (mul_assoc r d (d ^ (k / 2 + k / 2)) ∙ ap (λ (x : ℕ). r * x) (sym (pow-succ' d (k / 2 + k / 2)) ∙ ap (λ (n : ℕ). d ^ n) all))

pub raise_even : (p r d k : ℕ) → (k % 2 ≡ 1 → ⊥) → (r * ((d * d) % p) ^ (k / 2)) % p ≡ (r * d ^ k) % p
raise_even p r d k e = squared p r d (k / 2) ∙ ap (λ (n : ℕ). (r * d ^ n) % p) (sym (half_even k e))

module _ {p g q : ℕ} (cycle : Cycle p g q) where
  pub around : (n : ℕ) → g ^ n % p ≡ g ^ (n % q) % p
  around n =
      ap (λ (k : ℕ). g ^ k % p) (sym (mod-add-div n q)) ∙ ap (λ (x : ℕ). x % p) (pow-add g (n % q) (q * (n / q)) ∙ mul_comm (g ^ (n % q)) (g ^ (q * (n / q)))) ∙
      one_left p (g ^ (q * (n / q))) (g ^ (n % q)) (ap (λ (x : ℕ). x % p) (sym (pow_mul g q (n / q))) ∙ one_pow p (g ^ q) (n / q) cycle.more cycle.whole)

  -- two exponents below q with one power, in order
  apart : (j k : ℕ) → j ≤ k → k < q → g ^ j % p ≡ g ^ k % p → g ^ (k - j) % p ≡ 1
  apart j k le h e =
      sym (one_left p (g ^ q) (g ^ (k - j)) cycle.whole) ∙
      ap (λ (x : ℕ). x % p) (sym (pow-add g q (k - j))) ∙
      ap (λ (n : ℕ). g ^ n % p) {x = q + (k - j)} {y = k + (q - j)} (omega arith) ∙
      sym (pow_sum p g k (q - j)) ∙ ap (λ (x : ℕ). (x * (g ^ (q - j) % p)) % p) (sym e) ∙ pow_sum p g j (q - j) ∙
      ap (λ (n : ℕ). g ^ n % p) {x = j + (q - j)} {y = q} (omega arith) ∙ cycle.whole

  not_less : (j k : ℕ) → j < k → k < q → g ^ j % p ≡ g ^ k % p → ⊥
  not_less j k l h e = cycle.none (k - j) (omega arith) (omega arith) (apart j k (omega arith) h e)

  unique_by : (j k : ℕ) → Dec (j < k) → Dec (k < j) → j < q → k < q → g ^ j % p ≡ g ^ k % p → j ≡ k
  unique_by j k (yes l) d hj hk e = absurd (not_less j k l hk e)
  unique_by j k (no l) (yes m) hj hk e = absurd (not_less k j m hj (sym e))
  unique_by j k (no l) (no m) hj hk e = omega arith

  pub unique : (j k : ℕ) → j < q → k < q → g ^ j % p ≡ g ^ k % p → j ≡ k
  unique j k = unique_by j k (dec_lt j k) (dec_lt k j)

  pub power_member : (n : ℕ) → Member p q (g ^ n % p)
  power_member n = (
    mod-lt (g ^ n) (omega (arith, cycle.more)),
    pow_mod p (g ^ n) q ∙ ap (λ (x : ℕ). x % p) (pow_mul g n q ∙ ap (λ (k : ℕ). g ^ k) (mul_comm n q) ∙ sym (pow_mul g q n)) ∙
        one_pow p (g ^ q) n cycle.more cycle.whole,
  )

-- the search finds the exponent
found_power : (p g a l q : ℕ) → l < q → g ^ l % p ≡ a → (exponent p g q a < q) × (g ^ exponent p g q a % p ≡ a)
found_power p g a l q h e =
    let f = found (λ k. eqb (g ^ k % p) a) l q h (subst T (sym (eq-eqb (g ^ l % p) a e)) tt) in
    (f.0, eqb→eq (g ^ exponent p g q a % p) a f.1)

module _ {p g q : ℕ} (cycle : Cycle p g q) where
  pub log_below : (a : ℕ) → Member p q a → exponent p g q a < q
  log_below a m = let l = cycle.all a m in (found_power p g a l.0 q l.1 l.2).0

  pub log_power : (a : ℕ) → Member p q a → g ^ exponent p g q a % p ≡ a
  log_power a m = let l = cycle.all a m in (found_power p g a l.0 q l.1 l.2).1

  -- the logarithm of a power
  pub log_of : (k : ℕ) → k < q → exponent p g q (g ^ k % p) ≡ k
  log_of k h =
      let m = power_member cycle k in
      unique cycle (exponent p g q (g ^ k % p)) k (log_below (g ^ k % p) m) h (log_power (g ^ k % p) m)

  pub log_same : (a b : ℕ) → Member p q a → Member p q b → exponent p g q a ≡ exponent p g q b → a ≡ b
  log_same a b m n e = sym (log_power a m) ∙ ap (λ (k : ℕ). g ^ k % p) e ∙ log_power b n

  -- a product is the power of the sum of the logarithms
  pub product : (a b : ℕ) → Member p q a → Member p q b → (a * b) % p ≡ g ^ ((exponent p g q a + exponent p g q b) % q) % p
  product a b m n =
      ap (λ (x : ℕ). (x * b) % p) (sym (log_power a m)) ∙ ap (λ (x : ℕ). ((g ^ exponent p g q a % p) * x) % p) (sym (log_power b n)) ∙
      pow_sum p g (exponent p g q a) (exponent p g q b) ∙ around cycle (exponent p g q a + exponent p g q b)

  pub product_member : (a b : ℕ) → Member p q a → Member p q b → Member p q ((a * b) % p)
  product_member a b m n = subst (Member p q) (sym (product a b m n)) (power_member cycle ((exponent p g q a + exponent p g q b) % q))

  pub log_product : (a b : ℕ) → Member p q a → Member p q b → exponent p g q ((a * b) % p) ≡ (exponent p g q a + exponent p g q b) % q
  log_product a b m n =
      let positive : 0 < q = omega (arith, log_below a m) in
      ap (λ (x : ℕ). exponent p g q x) (product a b m n) ∙ log_of ((exponent p g q a + exponent p g q b) % q) (mod-lt _ positive)

  -- a power of a member is the power of its logarithm's multiple
  pub raised : (a n : ℕ) → Member p q a → a ^ n % p ≡ g ^ ((exponent p g q a * n) % q) % p
  raised a n m =
      ap (λ (x : ℕ). x ^ n % p) (sym (log_power a m)) ∙ pow_mod p (g ^ exponent p g q a) n ∙
      ap (λ (x : ℕ). x % p) (pow_mul g (exponent p g q a) n) ∙ around cycle (exponent p g q a * n)

  pub raised_member : (a n : ℕ) → Member p q a → Member p q (a ^ n % p)
  raised_member a n m = subst (Member p q) (sym (raised a n m)) (power_member cycle ((exponent p g q a * n) % q))

  pub log_raised : (a n : ℕ) → Member p q a → exponent p g q (a ^ n % p) ≡ (exponent p g q a * n) % q
  log_raised a n m =
      let positive : 0 < q = omega (arith, log_below a m) in
      ap (λ (x : ℕ). exponent p g q x) (raised a n m) ∙ log_of ((exponent p g q a * n) % q) (mod-lt _ positive)

-- The rule of a table of powers, carried to each exponent.
step_at : (p g x : ℕ) (xs : List ℕ) (k : ℕ) → stepwise p g x xs ≡ true → x < p → k ≤ length xs → get_or (x ∷ xs) k 0 ≡ (x * g ^ k) % p
step_at p g x xs zero e l h = sym (ap (λ (y : ℕ). (x * y) % p) (pow-zero g) ∙ ap (λ (y : ℕ). y % p) (mul-one x) ∙ mod-eq_of_lt l)
step_at p g x [] (suc k) e l h = absurd (not-suc-le-zero h)
step_at p g x (y ∷ ys) (suc k) e l h =
    let positive : 0 < p = omega arith in
    let both = and_parts (eqb y (x * g % p)) (stepwise p g y ys) e in
    let next : y ≡ x * g % p = eqb-true y (x * g % p) both.0 in
    let small : y < p = subst (λ (z : ℕ). z < p) (sym next) (mod-lt (x * g) positive) in
    step_at p g y ys k both.1 small (le_of_suc-le-suc h) ∙ ap (λ (z : ℕ). (z * g ^ k) % p) next ∙ mod_mul_left (x * g) (g ^ k) p ∙
    ap (λ (z : ℕ). z % p) (mul_assoc x g (g ^ k) ∙ ap (λ (z : ℕ). x * z) (sym (pow-succ' g k)))

pub power_at : (p g : ℕ) (xs : List ℕ) (k : ℕ) → are_powers p g xs ≡ true → 1 < p → k < length xs → get_or xs k 0 ≡ g ^ k % p
power_at p g [] k e l h = absurd (not-suc-le-zero h)
power_at p g (x ∷ xs) k e l h =
    let both = and_parts (eqb x 1) (stepwise p g x xs) e in
    let one = eqb-true x 1 both.0 in
    step_at p g x xs k both.1 (omega arith) (le_of_suc-le-suc h) ∙ ap (λ (z : ℕ). (z * g ^ k) % p) one ∙ ap (λ (z : ℕ). z % p) (one-mul (g ^ k))
