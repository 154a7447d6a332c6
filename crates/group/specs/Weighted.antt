-- The sum of elements that stand as codes in a row of bytes, each times its scalar.
use Rattle.std.specs.Prelude.{ℕ, zero, suc, ◌+◌, ◌*◌, cond, List, [], ◌∷◌, length, take, drop, Some, None, Ok, Err, Option, Result, ◌==◌}
use Rattle.faults.specs.declared.WireFault.TheVariants.{WrongLength}
use Rattle.faults.specs.declared.GroupFault.TheVariants.{NoElement}
use Rattle.group.specs.Model.{Model}
use Rattle.group.specs.declared.SumFault.{SumFault}
use Rattle.group.specs.declared.SumFault.TheVariants.{Wire, Item}

-- one element more in front
abbrev pub put : {E : Type 0} → E → Result (List E) ℕ → Result (List E) ℕ
put p (Ok ps) = Ok (p ∷ ps)
put p (Err i) = Err i

-- item i, if it is an element, in front of the others
abbrev pub led : {E : Type 0} → ℕ → Option E → Result (List E) ℕ → Result (List E) ℕ
led i None rest = Err i
led i (Some p) rest = put p rest

module _ {E S K : Type 0} (m : Model E S K) where
  -- the elements of so many codes in a row, or the number of the first that is no code, counting from i
  abbrev pub elements : ℕ → ℕ → List ℕ → Result (List E) ℕ
  elements i zero codes = Ok []
  elements i (suc n) codes = led i (m.element (take m.element_width codes)) (elements (suc i) n (drop m.element_width codes))

  -- the sum of the logarithms, each times its scalar
  abbrev pub weighed : List S → List E → ℕ
  weighed [] ps = 0
  weighed (s ∷ ss) [] = 0
  weighed (s ∷ ss) (p ∷ ps) = m.scalars.number s * m.log p + weighed ss ps

  -- the sum of the elements, each times its scalar
  unfoldable pub weighted : List S → List E → E
  weighted ss ps = m.at_log (weighed ss ps)

  abbrev pub summed : List S → Result (List E) ℕ → Result E SumFault
  summed ss (Ok ps) = Ok (weighted ss ps)
  summed ss (Err i) = Err (Item i NoElement)

  -- the length must be that of one code for each scalar; then the items count from 1
  unfoldable pub weighted_sum : List ℕ → List S → Result E SumFault
  weighted_sum codes ss =
      cond (length codes == length ss * m.element_width) (summed ss (elements 1 (length ss) codes)) (Err (Wire WrongLength))
