-- That the numbers modulo a prime keep the laws of scalars: proofs that `modulo` holds, so they stand beside it.
use Rattle.std.specs.Prelude.{◌≡◌, ℕ, zero, suc, ◌-◌, ◌*◌, ◌/◌, ◌%◌, ◌^◌, ◌<◌, ◌≤◌, Bool, true, false, cond, T, Some, None, Option, ◌==◌, nat_eq, nat_le}
use Rattle.std.proofs.Math.Path.{refl, ap}
use Rattle.std.proofs.Common.{sym, ◌∙◌, subst, mod-lt, mul-one, one-mul, zero-mul, mul_assoc, mul_comm, arith, eq-eqb, leb-true}
use mathlib.Core.HLevel.{is_prop→PathP}
use Rattle.std.proofs.Math.Bridge.{le_prop}
use Rattle.std.proofs.Math.Nat.{mod-eq_of_lt, zero-mod}
use Rattle.std.proofs.Math.Decide.{dec_lt}
use Rattle.std.proofs.Math.Dec.{eqb→eq}
use Rattle.numbers.specs.Prime.{Prime}
use Rattle.numbers.proofs.Mod.{mod_mul_left, mod_mul_right, nearer, positive}
use Rattle.numbers.proofs.Sought.{found, not_found}
use Rattle.scalar.specs.Inverse.{inverse_number}
use Rattle.scalar.specs.declared.order.Order.{Order}
use Rattle.scalar.specs.declared.modular.Scalar.{Scalar}
use Rattle.scalar.specs.declared.positive.NonZero.{NonZero}

-- how many bytes a number below q takes
abbrev pub width_of : ℕ → ℕ
width_of q = cond (nat_le q 256) 1 2

-- the scalar of a number, taken modulo q
unfoldable pub scalar_at : {q : ℕ} → Order q → ℕ → Scalar q
scalar_at {q} o n = record { value = n % q; below = let low = o.low in mod-lt n (omega arith) }

abbrev pub nonzero_by : {q : ℕ} (s : Scalar q) → Dec (0 < s.value) → Option (NonZero q)
nonzero_by s (yes h) = Some (record { scalar = s; positive = h })
nonzero_by s (no h) = None

-- the nonzero scalar that a scalar is, if it is not zero
unfoldable pub nonzero_of : {q : ℕ} → Scalar q → Option (NonZero q)
nonzero_of s = nonzero_by s (dec_lt 0 s.value)

pub narrow : (q : ℕ) → 1 ≤ width_of q
narrow q = elim (nat_le q 256) as (λ b. 1 ≤ cond b 1 2) [ true ↦ omega arith | false ↦ omega arith ]

pub wide : (q : ℕ) → width_of q ≤ 2
wide q = elim (nat_le q 256) as (λ b. cond b 1 2 ≤ 2) [ true ↦ omega arith | false ↦ omega arith ]

room_by : (q : ℕ) (b : Bool) → nat_le q 256 ≡ b → q < 65536 → q ≤ 256 ^ cond b 1 2
room_by q true e h = leb-true q 256 e
room_by q false e h = omega arith

pub room : (q : ℕ) → q < 65536 → q ≤ 256 ^ width_of q
room q h = room_by q (nat_le q 256) refl h

pub same_value : {q : ℕ} (s t : Scalar q) → s.value ≡ t.value → s ≡ t
same_value {q} s t e = λ i. record {
  value = e i;
  below = is_prop→PathP (λ j. e j < q) (λ j. le_prop) s.below t.below i;
}

pub same_part : {q : ℕ} (j k : NonZero q) → j.scalar ≡ k.scalar → j ≡ k
same_part j k e = λ i. record {
  scalar = e i;
  positive = is_prop→PathP (λ j. 0 < (e j).value) (λ j. le_prop) j.positive k.positive i;
}

module _ {q : ℕ} (o : Order q) where
  pub full : (n : ℕ) → (scalar_at o n).value ≡ n % q
  unfolding scalar_at
  full n = refl

  -- from any number that is a multiple of s, down to one
  reach : (s fuel a m : ℕ) → a ≤ fuel → 0 < a → a < q → (s * m) % q ≡ a → (x : ℕ) × ((s * x) % q ≡ 1)
  reach s zero a m f p h e = absurd (omega arith)
  reach s (suc fuel) a m f p h e =
      elim (dec_lt 1 a) [
        | yes l ↦
            let less : q % a < a = mod-lt q p in
            reach s fuel (q % a) ((m * (q - q / a)) % q) (omega arith) (positive (o.prime.1 a l h)) (omega arith) (nearer q s a m p h e)
        | no l ↦ let one : a ≡ 1 = omega arith in (m, e ∙ one)
      ]

  tests : (s x : ℕ) → (s * x) % q ≡ 1 → T ((s * (x % q)) % q == 1)
  tests s x e = subst T (sym (eq-eqb ((s * (x % q)) % q) 1 (mod_mul_right s x q ∙ e))) tt

  pub inverse_found : (s : ℕ) → 0 < s → s < q → (inverse_number q s < q) × ((s * inverse_number q s) % q ≡ 1)
  unfolding inverse_number
  inverse_found s p h =
      let there = reach s s s 1 (omega arith) p h (ap (λ (x : ℕ). x % q) (mul-one s) ∙ mod-eq_of_lt h) in
      let x = there.0 in
      let f = found (λ m. nat_eq ((s * m) % q) 1) (x % q) q (mod-lt x (omega arith)) (tests s x there.1) in
      (f.0, eqb→eq ((s * inverse_number q s) % q) 1 f.1)

  pub inverse_one : (s : Scalar q) → 0 < s.value → (s.value * (scalar_at o (inverse_number q s.value)).value) % q ≡ 1
  unfolding scalar_at
  inverse_one s p =
      let f = inverse_found s.value p s.below in
      mod_mul_right s.value (inverse_number q s.value) q ∙ f.1

  pub inverse_none : inverse_number q 0 ≡ 0
  unfolding inverse_number
  inverse_none =
      let low = o.low in
      not_found (λ m. nat_eq ((0 * m) % q) 1) q
      (λ k h t.
      let e : (0 * k) % q ≡ 1 = eqb→eq ((0 * k) % q) 1 t in
      let z : (0 * k) % q ≡ 0 = ap (λ (x : ℕ). x % q) (zero-mul k) ∙ zero-mod q in
      omega arith)

  pub inverse_zero : (s : Scalar q) → s.value ≡ 0 → (scalar_at o (inverse_number q s.value)).value ≡ 0
  unfolding scalar_at
  inverse_zero s e = ap (λ (x : ℕ). inverse_number q x % q) e ∙ ap (λ (x : ℕ). x % q) inverse_none ∙ zero-mod q

  -- a number has one inverse at most
  pub inverse_only : (s x : ℕ) → 0 < s → s < q → x < q → (s * x) % q ≡ 1 → x ≡ inverse_number q s
  inverse_only s x p h l e =
      let f = inverse_found s p h in
      let y = inverse_number q s in
      sym (mod-eq_of_lt l) ∙ ap (λ (z : ℕ). z % q) (sym (mul-one x)) ∙ ap (λ (z : ℕ). (x * z) % q) (sym f.1) ∙
      mod_mul_right x (s * y) q ∙ ap (λ (z : ℕ). z % q) (sym (mul_assoc x s y) ∙ ap (λ (z : ℕ). z * y) (mul_comm x s)) ∙
      sym (mod_mul_left (s * x) y q) ∙ ap (λ (z : ℕ). (z * y) % q) e ∙ ap (λ (z : ℕ). z % q) (one-mul y) ∙ mod-eq_of_lt f.0

none_by : {q : ℕ} (s : Scalar q) (d : Dec (0 < s.value)) → s.value ≡ 0 → nonzero_by s d ≡ None
none_by s (yes h) e = absurd (omega arith)
none_by s (no h) e = refl

pub none : {q : ℕ} (s : Scalar q) → s.value ≡ 0 → nonzero_of s ≡ None
unfolding nonzero_of
none s e = none_by s (dec_lt 0 s.value) e

some_by : {q : ℕ} (s : Scalar q) (d : Dec (0 < s.value)) → 0 < s.value → (k : NonZero q) × (nonzero_by s d ≡ Some k) × (k.scalar ≡ s)
some_by s (yes h) p = (record { scalar = s; positive = h }, refl, refl)
some_by s (no h) p = absurd (h p)

pub some : {q : ℕ} (s : Scalar q) → 0 < s.value → (k : NonZero q) × (nonzero_of s ≡ Some k) × (k.scalar ≡ s)
unfolding nonzero_of
some s p = some_by s (dec_lt 0 s.value) p

pub again : {q : ℕ} (k : NonZero q) → nonzero_of k.scalar ≡ Some k
again k = let f = some k.scalar k.positive in f.1 ∙ ap (λ j. Some j) (same_part f.0 k f.2)

-- that q is a prime order is known in one way
pub one_prime : {q : ℕ} (a b : Prime q) → a ≡ b
one_prime a b = λ i. (le_prop a.0 b.0 i, λ d l h e. let same : a.1 d l h e ≡ b.1 d l h e = absurd (a.1 d l h e) in same i)

pub one_order : {q : ℕ} (a b : Order q) → a ≡ b
one_order a b = λ i. record {
  low = le_prop a.low b.low i;
  high = le_prop a.high b.high i;
  prime = one_prime a.prime b.prime i;
}
