-- The worked values, each computed.
use Rattle.std.proofs.Common.{◌≡◌, ℕ, ◌+◌, ◌*◌, ◌%◌, true, List, Some, None, refl, ap}
use Rattle.std.specs.List.{AllByRecursion}
use Rattle.numbers.specs.Bytes.{written, word}
use Rattle.numbers.specs.Sought.{sought}
use Rattle.scalar.specs.Laws.{scalar_at}
use Rattle.scalar.specs.Inverse.{inverse_number}
use Rattle.scalar.specs.Modulo.{modulo}
use Rattle.scalar.specs.declared.modular.Scalar.{Scalar}
use Rattle.group.specs.Elements.{multiple}
use Rattle.res2039.specs.Powers2039.{tested_member}
use Rattle.res2039.specs.Elements.{logarithm, power_of_4, element_of, mapped, is_member}
use Rattle.res2039.specs.Laws.{same_value}
use Rattle.res2039.specs.Kind.{residues}
use Rattle.res2039.specs.Worked.{multiples, refused, maps, orders, Takes, Ordered, Worked, scalar}
use Rattle.res2039.specs.declared.residue.Residue.{Residue}

-- the element of a number
the : (a : ℕ) → is_member a ≡ true → Residue
the a e = record { value = a; member = tested_member a e }

takes : (s : Scalar 1019) (a b : ℕ) (d : is_member a ≡ true) (e : is_member b ≡ true) → residues.element (written 2 a) ≡ Some (the a d) →
    residues.element (written 2 b) ≡ Some (the b e) → (multiple residues s (the a d)).value ≡ b → Takes s a b
unfolding the
takes s a b d e f g h = (the a d, the b e, f, g, same_value (multiple residues s (the a d)) (the b e) h)

values_of_multiples : AllByRecursion (λ r. Takes (scalar r.0) r.1 r.2) multiples
unfolding the element_of multiple modulo scalar_at logarithm power_of_4 sought
values_of_multiples =
    let one = takes (scalar 3) 4 64 refl refl refl refl refl in
    let two = takes (scalar 6) 4 18 refl refl refl refl refl in
    let three = takes (scalar 1018) 4 510 refl refl refl refl refl in
    let four = takes (scalar 510) 4 2 refl refl refl refl refl in
    let five = takes (scalar 2) 362 548 refl refl refl refl refl in
    (one, (two, (three, (four, (five, tt)))))

no_codes : AllByRecursion (λ bytes. residues.element bytes ≡ None) refused
unfolding element_of
no_codes = (refl, (refl, (refl, tt)))

values_of_maps : AllByRecursion (λ r. (bytes : List ℕ) → word bytes ≡ r.0 → (residues.map bytes).value ≡ r.1) maps
unfolding mapped
values_of_maps =
    let square = λ (n : ℕ). (1 + n % 2038) * (1 + n % 2038) % 2039 in
    (λ bytes e. ap square e, (λ bytes e. ap square e, (λ bytes e. ap square e, tt)))

values_of_orders : AllByRecursion Ordered orders
unfolding the element_of multiple modulo scalar_at logarithm power_of_4 sought inverse_number
values_of_orders =
    let inverse = residues.scalars.inverse in
    let first : Ordered (49, 3, 1426, 2, 593, 362) = (takes (scalar 3) 49 1426 refl refl refl refl refl, takes (scalar 2) 1426 593 refl refl refl refl refl, takes (inverse (scalar 3)) 593 362 refl refl refl refl refl) in
    let second : Ordered (362, 511, 1426, 2, 593, 548) = (takes (scalar 511) 362 1426 refl refl refl refl refl, takes (scalar 2) 1426 593 refl refl refl refl refl, takes (inverse (scalar 511)) 593 548 refl refl refl refl refl) in
    (first, (second, tt))

pub worked : Worked
worked = (values_of_multiples, no_codes, values_of_maps, values_of_orders)
