-- The scalars of the order q: the numbers below q, reckoned modulo q.
use Rattle.std.specs.Prelude.{ℕ}
use Rattle.scalar.specs.Scalars.{Scalars}
use Rattle.scalar.specs.Inverse.{inverse_number}
use Rattle.scalar.specs.Laws as laws
use Rattle.scalar.specs.declared.order.Order.{Order}
use Rattle.scalar.specs.declared.modular.Scalar.{Scalar}
use Rattle.scalar.specs.declared.positive.NonZero.{NonZero}

unfoldable pub modulo : {q : ℕ} → Order q → Scalars (Scalar q) (NonZero q)
unfolding laws.scalar_at laws.nonzero_of
modulo {q} o = record {
  order = q;
  width = laws.width_of q;
  number = λ s. s.value;
  scalar = laws.scalar_at o;
  inverse = λ s. laws.scalar_at o (inverse_number q s.value);
  part = λ k. k.scalar;
  nonzero = laws.nonzero_of;
  low = o.low;
  high = o.high;
  prime = o.prime;
  narrow = laws.narrow q;
  wide = laws.wide q;
  room = laws.room q o.high;
  below = λ s. s.below;
  faithful = laws.same_value;
  full = laws.full o;
  inverse_zero = laws.inverse_zero o;
  inverse_one = laws.inverse_one o;
  positive = λ k. k.positive;
  none = laws.none;
  some = laws.some;
  again = laws.again;
}
