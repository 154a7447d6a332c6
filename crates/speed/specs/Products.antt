-- What a C caller is told of a multiple s·P, whose scalar and element come as codes.
use Rattle.std.specs.Prelude.{ℕ, cond, List, ◌++◌, length, drop, Some, None, Ok, Err, Option, Result, nat_lt}
use Rattle.faults.specs.Numbers.{group_tells}
use Rattle.faults.specs.declared.GroupFault.{GroupFault}
use Rattle.faults.specs.declared.GroupFault.TheVariants.{NoElement, NoScalar}
use Rattle.scalar.specs.Scalars.{scalar_of}
use Rattle.group.specs.Model.{Model}
use Rattle.group.specs.Elements.{multiple}

module _ {E S K : Type 0} (m : Model E S K) where
  -- the multiple of the two, refused where either is none
  abbrev pub product_of : Option E → Option S → Result E GroupFault
  product_of None s = Err NoElement
  product_of (Some p) None = Err NoScalar
  product_of (Some p) (Some s) = Ok (multiple m s p)

  -- the element is looked at first
  abbrev pub product : List ℕ → List ℕ → Result E GroupFault
  product code scalar = product_of (m.element code) (scalar_of m.scalars scalar)

  -- 6 or 8 for bytes that are no code, then 9 for an outlet that a code does not fit
  abbrev pub product_status : Result E GroupFault → ℕ → ℕ
  product_status (Err fault) room = (group_tells fault).number
  product_status (Ok x) room = cond (nat_lt room m.element_width) 9 0

  -- the code at the front and the rest as it was, or all as it was
  abbrev pub product_out : Result E GroupFault → List ℕ → List ℕ
  product_out (Err fault) old = old
  product_out (Ok x) old = cond (nat_lt (length old) m.element_width) old (m.code x ++ drop m.element_width old)
