-- The theorems on circ523.
use Rattle.std.proofs.Common.{sym, refl, ap}
use Rattle.numbers.specs.Sought.{sought}
use Rattle.numbers.specs.Numbered.{coded_by}
use Rattle.scalar.specs.Inverse.{inverse_number}
use Rattle.circle.specs.Circle.{times, mapped_pair}
use Rattle.circle.specs.Circle as circle
use Rattle.circle.proofs.Cyclic.{multiple_member}
use Rattle.circ523.specs.Elements.{multiple_of_base, code_of, element_of, mapped_point}
use Rattle.circ523.specs.Worked.{CircleGroup, Worked}
use Rattle.circ523.proofs.Steps.{is_null, is_generator, is_sum, is_opposite, sum_member, opposite_member}

pub values : Worked
unfolding times mapped_pair inverse_number sought coded_by multiple_of_base code_of element_of mapped_point
values =
    (refl, (refl, ((refl, refl), ((refl, refl), (λ bytes e. ap mapped_pair e, (λ bytes e. ap mapped_pair e, (λ bytes e. ap mapped_pair e, (λ bytes e. ap mapped_pair e, tt))))))))

-- null, G, sums and opposites are those of the circle
pub as_circle : CircleGroup
unfolding times
as_circle = record {
  null_is = ap (λ p. p.pair) (sym (is_null (record { pair = circle.null; member = multiple_member 0 }) refl));
  generator_is = ap (λ p. p.pair) (sym (is_generator (record { pair = circle.base; member = multiple_member 1 }) refl));
  sum_is = λ p r. ap (λ s. s.pair) (sym (is_sum p r (record { pair = circle.plus p.pair r.pair; member = sum_member p r }) refl));
  opposite_is = λ p. ap (λ s. s.pair) (sym (is_opposite p (record { pair = circle.opposite p.pair; member = opposite_member p }) refl));
  each_member = λ a m. (record { pair = a; member = m }, refl);
}
