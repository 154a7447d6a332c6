-- What res2039 means.
use Rattle.std.specs.Prelude.{codes}
use Rattle.std.proofs.Common.{lit<, lit≤}
use Rattle.scalar.specs.Modulo.{modulo}
use Rattle.scalar.specs.declared.modular.Scalar.{Scalar}
use Rattle.scalar.specs.declared.positive.NonZero.{NonZero}
use Rattle.group.specs.Model.{Model}
use Rattle.res2039.specs.Elements.{logarithm, power_of_4, code_of, element_of, mapped}
use Rattle.res2039.specs.Laws as laws
use Rattle.res2039.specs.Laws.{order}
use Rattle.res2039.specs.declared.residue.Residue.{Residue}

abbrev pub residues : Model Residue (Scalar 1019) (NonZero 1019)
residues = record {
  scalars = modulo order;
  kind = 0xE101;
  name = codes "res2039";
  element_width = 2;
  log = logarithm;
  at_log = power_of_4;
  code = code_of;
  element = element_of;
  map = mapped;
  kind_fits = lit< tt;
  name_some = lit≤ tt;
  name_fits = lit≤ tt;
  name_bytes = (lit< tt, (lit< tt, (lit< tt, (lit< tt, (lit< tt, (lit< tt, (lit< tt, tt)))))));
  element_some = lit≤ tt;
  element_fits = lit≤ tt;
  below = laws.below;
  faithful = laws.faithful;
  full = laws.full;
  coded = laws.coded;
  coded_bytes = laws.coded_bytes;
  decoded = laws.decoded;
  encoded = laws.encoded;
}
