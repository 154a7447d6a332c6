-- The one answer of a call, and what it leaves in an outlet.
use Rattle.std.specs.Prelude.{ℕ, Bool, cond, List, [], ◌∷◌, ◌++◌, length, drop, Ok, Err, Result}

-- checks in their order, each with its fault: the first that fails answers, else what follows
abbrev pub ruled : {T E : Type 0} → List (Bool × E) → Result T E → Result T E
ruled [] next = next
ruled (x ∷ xs) next = cond x.0 (Err x.1) (ruled xs next)

-- the bytes at the front, and the rest as it was
unfoldable pub over : List ℕ → List ℕ → List ℕ
over bytes old = bytes ++ drop (length bytes) old

-- an outlet: the bytes at its front where the call answers, all as it was where it refuses
abbrev pub laid : {T E : Type 0} → Result T E → List ℕ → List ℕ → List ℕ
laid (Ok x) bytes old = over bytes old
laid (Err e) bytes old = old
