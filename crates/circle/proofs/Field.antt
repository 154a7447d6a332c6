-- The numbers modulo 523: the order is prime, and an inverse is a number below it.
use Rattle.std.proofs.Common.{◌≡◌, ℕ, ◌<◌, ap, ◌∙◌, mod-eq_of_lt, arith, lit<, lit≤}
use native.Mathlib.Decide.{dec_lt}
use Rattle.numbers.specs.Prime.{Prime}
use Rattle.numbers.proofs.Primes.{prime_by_test}
use Rattle.scalar.specs.declared.order.Order.{Order}
use Rattle.scalar.specs.declared.modular.Scalar.{Scalar}
use Rattle.scalar.specs.Inverse.{inverse_number}
use Rattle.scalar.specs.Laws.{scalar_at, inverse_found, inverse_none}
use Rattle.scalar.specs.Modulo.{modulo}

pub prime : Prime 523
prime = prime_by_test 523 (lit< tt) tt

pub field : Order 523
field = record { low = lit≤ tt; high = lit< tt; prime = prime }

below_by : (s : ℕ) → s < 523 → Dec (0 < s) → inverse_number 523 s < 523
below_by s h (yes p) = (inverse_found field s p h).0
below_by s h (no p) =
    let z : s ≡ 0 = omega arith in
    let e : inverse_number 523 s ≡ 0 = ap (inverse_number 523) z ∙ inverse_none field in
    omega arith

pub inverse_value : (o : Order 523) (s : Scalar 523) → ((modulo o).inverse s).value ≡ inverse_number 523 s.value
unfolding modulo scalar_at
inverse_value o s = mod-eq_of_lt (below_by s.value s.below (dec_lt 0 s.value))
