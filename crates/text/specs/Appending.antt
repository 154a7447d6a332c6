-- What is added to the end of a text.
use Rattle.std.specs.Prelude.{◌≡◌, ℕ, ◌+◌, ◌<◌, ◌≤◌, List, ◌++◌, length, Ok, Err, vec_items, vec_len, vec_capacity, Result, Vec}
use Rattle.std.specs.declared.alloc.AllocError.{AllocError}
use Rattle.std.specs.declared.alloc.Global.{Global}

-- bs is added to the text `v`, which becomes `w`; or, where v has no room for it, v stays as it is
abbrev pub Appends : List ℕ → Vec ℕ Global → Vec ℕ Global → Result (Unit {0}) AllocError → Type 0
Appends bs v w (Ok u) = (vec_items w ≡ vec_items v ++ bs) × (vec_capacity v ≤ vec_capacity w)
Appends bs v w (Err e) = (vec_items w ≡ vec_items v) × (vec_capacity v < vec_len v + length bs)
