-- What a kind of group means: E is the type of its elements, S of its scalars, K of its scalars that
-- are not zero. Each element has one logarithm, a scalar's number, that no call tells. Whoever adds a
-- kind gives these parts and shows these laws; all that is built on groups rests on them alone.
use Rattle.std.specs.Prelude.{◌≡◌, ℕ, ◌%◌, ◌<◌, ◌≤◌, List, length, Some, Option}
use Rattle.std.specs.List.{AllByRecursion}
use Rattle.scalar.specs.Scalars.{Scalars}

-- bytes are numbers below 256
abbrev pub Bytes : List ℕ → Type 0
Bytes bytes = AllByRecursion (λ b. b < 256) bytes

pub record Model (E S K : Type 0) : Type 0 where
  -- the scalars, with the order of the group
  pub scalars : Scalars S K
  -- the type that messages carry: two bytes
  pub kind : ℕ
  -- the name that hashes carry
  pub name : List ℕ
  -- how many bytes the code of an element has
  pub element_width : ℕ
  -- the logarithm of an element
  pub log : E → ℕ
  -- the element of a logarithm, taken modulo the order
  pub at_log : ℕ → E
  -- the bytes that stand for an element
  pub code : E → List ℕ
  -- the element that bytes stand for, if they are a code
  pub element : List ℕ → Option E
  -- the element that 32 bytes map to
  pub map : List ℕ → E
  -- the type fits two bytes, the name has 1 to 16 bytes, a code 1 to 8
  pub kind_fits : kind < 65536
  pub name_some : 1 ≤ length name
  pub name_fits : length name ≤ 16
  pub name_bytes : Bytes name
  pub element_some : 1 ≤ element_width
  pub element_fits : element_width ≤ 8
  -- each number below the order is the logarithm of exactly one element
  pub below : (x : E) → log x < scalars.order
  pub faithful : (x y : E) → log x ≡ log y → x ≡ y
  pub full : (n : ℕ) → log (at_log n) ≡ n % scalars.order
  -- every element has one code, all of one length, and only codes are decoded
  pub coded : (x : E) → length (code x) ≡ element_width
  pub coded_bytes : (x : E) → Bytes (code x)
  pub decoded : (x : E) → element (code x) ≡ Some x
  pub encoded : (bytes : List ℕ) (x : E) → element bytes ≡ Some x → code x ≡ bytes
