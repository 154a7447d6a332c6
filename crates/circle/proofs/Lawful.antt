-- The laws of the circle, gathered.
use Rattle.std.proofs.Common.{◌+◌, ◌*◌, ◌%◌, ◌∙◌, mod-lt, arith, lit<}
use native.Mathlib.Nat.{mod-add-mod}
use Rattle.scalar.specs.Laws.{inverse_found}
use Rattle.circle.specs.Laws.{CircleLaws}
use Rattle.circle.specs.Sums.{alike, plus_assoc, plus_comm, null_plus}
use Rattle.circle.proofs.Algebra.{circle_plus, plus_opposite}
use Rattle.circle.proofs.Cyclic.{numbered, multiple_member}
use Rattle.circle.proofs.Field.{field}
use Rattle.circle.proofs.Fourfold.{four_member, invertible, slope_circle, mapped_member}

pub lawful : CircleLaws
lawful = record {
  difference = λ a b. mod-add-mod (a + 522 * b) 523 b ∙ alike (a + 522 * b + b) a 0 b (omega arith);
  closed = circle_plus;
  associative = plus_assoc;
  commutative = plus_comm;
  null_adds = null_plus;
  opposed = plus_opposite;
  multiples = multiple_member;
  members = numbered.all;
  once = numbered.apart;
  fourfold = four_member;
  invertible = λ t h. (inverse_found field ((1 + t * t) % 523) (invertible t h) (mod-lt (1 + t * t) (lit< tt))).1;
  slope = slope_circle;
  maps = mapped_member;
}
