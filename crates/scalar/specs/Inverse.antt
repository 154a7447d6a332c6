-- The inverse of a number modulo q.
use Rattle.std.specs.Prelude.{ℕ, ◌*◌, ◌%◌, nat_eq}
use Rattle.numbers.specs.Sought.{sought}

-- the number below q whose product with n is one; 0 where there is none
unfoldable pub inverse_number : ℕ → ℕ → ℕ
inverse_number q n = sought (λ m. nat_eq ((n * m) % q) 1) q
