-- What is kept under a name.
use Rattle.std.specs.Prelude.{◌≡◌, ℕ, cond, List, Some, None, Ok, Err, vec_items, Option, Result}
use Rattle.std.specs.declared.alloc.AllocError.{AllocError}
use Rattle.std.specs.HashMap.{get_by, spare}
use Rattle.std.specs.Option.{option_map}
use Rattle.std.specs.Str.{bytes_eq}
use Rattle.script.specs.declared.names.Names.{Names}

-- what a table holds: at most one byte string under each name
unfoldable pub holds : Names → List ℕ → Option (List ℕ)
holds names name = option_map (λ v. vec_items v) (get_by (λ k. bytes_eq name (vec_items k)) names.kept)

-- Keeping bytes under a name: that name then has these bytes, and every other what it had. Where the name is
-- new and no memory is left for it, every name has what it had.
abbrev pub Keeps : List ℕ → List ℕ → Names → Names → Result (Unit {0}) AllocError → Type 0
Keeps name bytes before after (Ok u) = (other : List ℕ) → holds after other ≡ cond (bytes_eq name other) (Some bytes) (holds before other)
Keeps name bytes before after (Err e) =
    ((other : List ℕ) → holds after other ≡ holds before other) × (holds before name ≡ None) × (spare before.kept ≡ 0)
