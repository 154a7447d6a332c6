-- What a C caller is told: 0, or the number of the first fault.
use Rattle.std.specs.Prelude.{ℕ, cond, List, ◌++◌, length, drop, nat_lt}
use Rattle.digest.specs.Sha256.{sha256}

-- 2 for an input above 4,096 bytes, then 9 for an outlet under 32 bytes
abbrev pub digest_status : List ℕ → ℕ → ℕ
digest_status input room = cond (nat_lt 4096 (length input)) 2 (cond (nat_lt room 32) 9 0)

-- the digest at the front and the rest as it was, or all as it was
abbrev pub digest_out : List ℕ → List ℕ → List ℕ
digest_out input old = cond (nat_lt 4096 (length input)) old (cond (nat_lt (length old) 32) old (sha256 input ++ drop 32 old))

-- the last reply at the front and the rest as it was, or all as it was where the longest would not fit
abbrev pub issued_out : List ℕ → List ℕ → List ℕ
issued_out reply old = cond (nat_lt (length old) 137) old (reply ++ drop 137 old)
