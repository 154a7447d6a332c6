-- What the steps with elements answer, told by logarithms.
use Rattle.std.specs.Prelude.{◌+◌, ◌-◌, ◌*◌}
use Rattle.group.specs.Model.{Model}

module _ {E S K : Type 0} (m : Model E S K) where
  -- the null element has logarithm 0
  unfoldable pub null : E
  null = m.at_log 0

  -- the generator has logarithm 1
  unfoldable pub generator : E
  generator = m.at_log 1

  -- a sum adds logarithms
  unfoldable pub sum : E → E → E
  sum x y = m.at_log (m.log x + m.log y)

  -- an opposite negates the logarithm
  unfoldable pub opposite : E → E
  opposite x = m.at_log (m.scalars.order - m.log x)

  -- the base multiple of a scalar has its number as logarithm
  unfoldable pub base_multiple : S → E
  base_multiple s = m.at_log (m.scalars.number s)

  -- s times an element: s times its logarithm
  unfoldable pub multiple : S → E → E
  multiple s x = m.at_log (m.scalars.number s * m.log x)
