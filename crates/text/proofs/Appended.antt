-- A text that grows at the end. Assumes nothing.
use Rattle.std.proofs.Common.{◌≡◌, ℕ, ◌+◌, ◌<◌, ◌≤◌, cond, List, ◌++◌, length, is_ok, Ok, Err, vec_items, vec_len, vec_capacity, Result, Vec, ap, ◌∙◌, subst, OnErr}
use Rattle.std.specs.declared.alloc.AllocError.{AllocError}
use Rattle.std.specs.declared.alloc.Global.{Global}
use Rattle.text.specs.Appending.{Appends}

pub appended : (more bs : List ℕ) (v w : Vec ℕ Global) (r : Result (Unit {0}) AllocError) → more ≡ bs →
    vec_items w ≡ cond (is_ok r) (vec_items v ++ more) (vec_items v) → vec_capacity v ≤ vec_capacity w →
    OnErr r (vec_capacity v < vec_len v + length more) → Appends bs v w r
appended more bs v w (Ok u) same items room full = (items ∙ ap (λ l. vec_items v ++ l) same, room)
appended more bs v w (Err e) same items room full = (items, subst (λ l. vec_capacity v < vec_len v + length l) same full)
