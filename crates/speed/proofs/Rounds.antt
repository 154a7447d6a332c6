-- Rounds that each add a bounded number.
use Rattle.std.proofs.Common.{◌≡◌, ℕ, ◌+◌, ◌*◌, ◌≤◌, arith}

-- a round more finds as many again at most
pub round_more : (n q found here all : ℕ) → found ≤ n * q → here ≤ q → all ≤ found + here → all ≤ (n + 1) * q
round_more n q found here all a b c =
    let e : (n + 1) * q ≡ n * q + q = omega arith in
    omega arith
