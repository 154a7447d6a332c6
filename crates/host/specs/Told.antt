-- What a host is told of a run of bytes.
use Rattle.std.specs.Prelude.{◌≡◌, ℕ, cond, List, length, Some, None, Option, ◌==◌, ◌≢◌}
use Rattle.faults.specs.Numbers.{wire_tells, group_tells}
use Rattle.faults.specs.declared.WireFault.TheVariants.{WrongLength}
use Rattle.faults.specs.declared.GroupFault.TheVariants.{NoElement}
use Rattle.group.specs.Model.{Model}

-- 0 where the bytes stand for an element, else the number of the fault
abbrev pub element_told : {E : Type 0} → Option E → ℕ
element_told (Some x) = 0
element_told None = (group_tells NoElement).number

-- the length first, then the bytes
unfoldable pub told : {E S K : Type 0} → Model E S K → List ℕ → ℕ
told m bytes = cond (length bytes == m.element_width) (element_told (m.element bytes)) (wire_tells WrongLength).number

-- The same in the words of a caller: 0 for each code and for nothing else, 2 for every other length, 6 for
-- all other bytes of a code's length.
pub record Tells {E S K : Type 0} (m : Model E S K) (bytes : List ℕ) (r : ℕ) : Type 0 where
  pub codes : (x : E) → m.code x ≡ bytes → r ≡ 0
  pub only_codes : r ≡ 0 → (x : E) × (m.code x ≡ bytes)
  pub lengths : (length bytes ≢ m.element_width) → r ≡ 2
  pub others : length bytes ≡ m.element_width → ((x : E) → m.code x ≢ bytes) → r ≡ 6
