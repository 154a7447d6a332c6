-- The elements of circ523, their logarithms, their codes and the map.
use Rattle.std.specs.Prelude.{ℕ, ◌/◌, ◌%◌, List, [], ◌∷◌, Option}
use Rattle.std.proofs.Common.{lit<, lit≤}
use Rattle.numbers.specs.Bytes.{word}
use Rattle.numbers.proofs.Primes.{prime_by_test}
use Rattle.scalar.specs.declared.order.Order.{Order}
use Rattle.numbers.specs.Numbered.{number_of, coded_by}
use Rattle.circle.specs.declared.Pair.{Pair}
use Rattle.circle.specs.Circle.{times, base, same_pair, mapped_pair}
use Rattle.circle.proofs.Cyclic.{multiple_member}
use Rattle.circle.proofs.Fourfold.{mapped_member}
use Rattle.circ523.specs.declared.point.Point.{Point}

-- 131 is prime
unfoldable pub order : Order 131
order = record { low = lit≤ tt; high = lit< tt; prime = prime_by_test 131 (lit< tt) tt }

-- the number k below 131 with k·G = p
unfoldable pub logarithm : Point → ℕ
logarithm p = number_of same_pair (λ k. times k base) 131 p.pair

-- n·G, with n taken modulo 131
unfoldable pub multiple_of_base : ℕ → Point
multiple_of_base n = record { pair = times (n % 131) base; member = multiple_member (n % 131) }

-- x and then y, in two bytes each
abbrev pub pair_code : Pair → List ℕ
pair_code a = a.x / 256 ∷ a.x % 256 ∷ a.y / 256 ∷ a.y % 256 ∷ []

unfoldable pub code_of : Point → List ℕ
code_of p = pair_code p.pair

-- the element that has the bytes as its code, if there is one
unfoldable pub element_of : List ℕ → Option Point
element_of bytes = coded_by code_of multiple_of_base 131 bytes

-- the element that 32 bytes map to
unfoldable pub mapped_point : List ℕ → Point
mapped_point bytes = record { pair = mapped_pair (word bytes); member = mapped_member (word bytes) }
