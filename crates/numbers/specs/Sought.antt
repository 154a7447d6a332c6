-- The number that passes a test.
use Rattle.std.specs.Prelude.{ℕ, zero, suc, Bool, cond}

-- the greatest number below n that passes the test; 0 where none does
unfoldable pub sought : (ℕ → Bool) → ℕ → ℕ
sought test zero = 0
sought test (suc n) = cond (test n) n (sought test n)
