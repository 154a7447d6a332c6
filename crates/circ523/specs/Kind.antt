-- What circ523 means.
use Rattle.std.specs.Prelude.{codes}
use Rattle.std.proofs.Common.{lit<, lit≤}
use Rattle.scalar.specs.Modulo.{modulo}
use Rattle.scalar.specs.declared.modular.Scalar.{Scalar}
use Rattle.scalar.specs.declared.positive.NonZero.{NonZero}
use Rattle.group.specs.Model.{Model}
use Rattle.circ523.specs.Elements.{order, logarithm, multiple_of_base, code_of, element_of, mapped_point}
use Rattle.circ523.specs.Laws as laws
use Rattle.circ523.specs.declared.point.Point.{Point}

abbrev pub points : Model Point (Scalar 131) (NonZero 131)
points = record {
  scalars = modulo order;
  kind = 0xE102;
  name = codes "circ523";
  element_width = 4;
  log = logarithm;
  at_log = multiple_of_base;
  code = code_of;
  element = element_of;
  map = mapped_point;
  kind_fits = lit< tt;
  name_some = lit≤ tt;
  name_fits = lit≤ tt;
  name_bytes = (lit< tt, (lit< tt, (lit< tt, (lit< tt, (lit< tt, (lit< tt, (lit< tt, tt)))))));
  element_some = lit≤ tt;
  element_fits = lit≤ tt;
  below = laws.below_order;
  faithful = laws.faithful;
  full = laws.full_order;
  coded = laws.coded;
  coded_bytes = laws.coded_bytes;
  decoded = laws.decoded;
  encoded = laws.encoded;
}
