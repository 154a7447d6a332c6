-- Numbers under the product modulo 2039, and their powers.
use Rattle.std.specs.Prelude.{◌≡◌, ℕ, zero, suc, ◌*◌, ◌%◌, ◌^◌, refl}
use Rattle.std.proofs.Common.{sym, ap, ◌∙◌, mod-lt, mod-eq_of_lt, mul_assoc, mul_comm, one-mul, pow-suc, lit<}
use native.Mathlib.Nat.{pow-zero}
use Rattle.numbers.specs.Repeated.{JoinLaws, repeated}
use Rattle.numbers.proofs.Mod.{mod_mul_left, mod_mul_right}
use Rattle.res2039.specs.declared.Factor.{Factor}

abbrev number : ℕ → Factor
number n = record { 0 = n }

abbrev pub one : Factor
one = record { 0 = 1 }

abbrev pub times : Factor → Factor → Factor
times x y = record { 0 = x.0 * y.0 % 2039 }

pub products : JoinLaws one times
products = record {
  grouped = λ x y z.
      ap number
      (mod_mul_left (x.0 * y.0) z.0 2039 ∙ ap (λ (n : ℕ). n % 2039) (mul_assoc x.0 y.0 z.0) ∙
      sym (mod_mul_right x.0 (y.0 * z.0) 2039));
  swapped = λ x y. ap (λ (n : ℕ). number (n % 2039)) (mul_comm x.0 y.0);
  neutral = λ x y. ap number (ap (λ (n : ℕ). n % 2039) (one-mul _) ∙ mod-eq_of_lt (mod-lt (x.0 * y.0) {m = 2039} (lit< tt)));
  nothing = refl;
}

-- so many of a number come to its power
pub power : (n : ℕ) (x : Factor) → (repeated one times n x).0 ≡ x.0 ^ n % 2039
unfolding repeated
power zero x = sym (ap (λ (n : ℕ). n % 2039) (pow-zero x.0))
power (suc n) x =
    ap (λ (k : ℕ). k * x.0 % 2039) (power n x) ∙ mod_mul_left (x.0 ^ n) x.0 2039 ∙ ap (λ (k : ℕ). k % 2039) (sym (pow-suc x.0 n))
