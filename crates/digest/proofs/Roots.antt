-- The constants are roots of primes, by tests that antt computes over the whole tables.
use Rattle.std.proofs.Common.{ℕ, zero, suc, ◌+◌, ◌*◌, ◌^◌, Bool, cond, T, ltb, leb, get_or, ltb→lt, leb→le}
use Rattle.numbers.proofs.Table.{both, both_left, both_right, every, at}
use Rattle.numbers.proofs.Primes.{first_primes}
use Rattle.digest.specs.Constants.{primes, round_constants, initial, FractionOfRoot, ConstantsAreRootsOfPrimes}

-- the largest number up to n whose e-th power is at most p
root : ℕ → ℕ → ℕ → ℕ
root e p zero = 0
root e p (suc n) = cond (leb (suc n ^ e) p) (suc n) (root e p n)

-- k passes for the fraction of the e-th root of the prime at place t, of which the whole part is below 20
fraction : ℕ → ℕ → ℕ → Bool
fraction e t k =
    let p = get_or primes t 0 in
    let n = root e p 20 in
    both (ltb k (2 ^ 32))
    (both (leb ((n * 2 ^ 32 + k) ^ e) (p * (2 ^ 32) ^ e)) (ltb (p * (2 ^ 32) ^ e) ((n * 2 ^ 32 + k + 1) ^ e)))

fraction_is : (e t k : ℕ) → T (fraction e t k) → FractionOfRoot e (get_or primes t 0) k
unfolding fraction
fraction_is e t k h =
    let p = get_or primes t 0 in
    let n = root e p 20 in
    let low = leb ((n * 2 ^ 32 + k) ^ e) (p * (2 ^ 32) ^ e) in
    let high = ltb (p * (2 ^ 32) ^ e) ((n * 2 ^ 32 + k + 1) ^ e) in
    let rest = both_right (ltb k (2 ^ 32)) (both low high) h in (
      ltb→lt k (2 ^ 32) (both_left (ltb k (2 ^ 32)) (both low high) h),
      (
        n,
        leb→le ((n * 2 ^ 32 + k) ^ e) (p * (2 ^ 32) ^ e) (both_left low high rest),
        ltb→lt (p * (2 ^ 32) ^ e) ((n * 2 ^ 32 + k + 1) ^ e) (both_right low high rest),
      ),
    )

cubes : T (every (fraction 3) 0 round_constants)
unfolding fraction root
cubes = tt

squares : T (every (fraction 2) 0 initial)
unfolding fraction root
squares = tt

pub constants : ConstantsAreRootsOfPrimes
constants = record {
  first = first_primes primes 312 tt tt tt;
  cube = λ t h. fraction_is 3 t (get_or round_constants t 0) (at (fraction 3) round_constants cubes t h);
  square = λ i h. fraction_is 2 i (get_or initial i 0) (at (fraction 2) initial squares i h);
}
