-- What a writer has put: parts one behind the other from the front of its buffer, or behind what stood there.
use Rattle.std.specs.Prelude.{◌≡◌, ℕ, ◌+◌, List, ◌++◌, length, take, drop}
use Rattle.numbers.specs.declared.writer.Writer.{Writer}

-- the parts so far
abbrev pub put_so_far : Writer → List ℕ
put_so_far w = take w.len w.bytes.now

-- how many bytes the buffer has
abbrev pub room : Writer → ℕ
room w = length w.bytes.now

-- A part more: it stands behind those before it, in the same buffer, and the bytes behind it are as they were.
pub record Put (before after : Writer) (part : List ℕ) : Type 0 where
  pub lent : after.bytes.ghost_name ≡ before.bytes.ghost_name
  pub parts : put_so_far after ≡ put_so_far before ++ part
  pub rest : drop after.len after.bytes.now ≡ drop after.len before.bytes.now
  pub len : after.len ≡ before.len + length part
  pub room : room after ≡ room before
