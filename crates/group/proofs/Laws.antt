-- The theorems on elements and scalars, from the laws of a model alone.
use Rattle.std.proofs.Common.{◌≡◌, ℕ, ◌+◌, ◌-◌, ◌*◌, ◌%◌, ◌<◌, Some, sym, refl, ap, ◌∙◌, subst, add_assoc, mod-lt, mod-eq_of_lt, mul_assoc, mul_comm, add-mul, add_comm, one-mul, mul-zero, zero-mul, mul-one, mul-add, arith}
use native.Mathlib.Nat.{mod_self, zero-mod}
use Rattle.numbers.proofs.Mod.{mod_mul_left, mod_mul_right, undone}
use Rattle.scalar.specs.Scalars.{added, subtracted, multiplied}
use Rattle.scalar.proofs.Reckoning.{reckons}
use Rattle.group.specs.Model.{Model}
use Rattle.group.specs.Elements.{null, generator, sum, opposite, base_multiple, multiple}
use Rattle.group.specs.Theorems.{Lawful, Unblinds, OneScalar}
use Rattle.group.proofs.Logs.{order_positive, at_own_log, same_remainder, log_null, log_generator, log_multiple, sum_at}
use Rattle.group.proofs.Codes.{one_code}

module _ {E S K : Type 0} (m : Model E S K) where
  pub log_zero : (x : E) → m.log x ≡ 0 → x ≡ null m
  log_zero x e = m.faithful x (null m) (e ∙ sym (log_null m))

  pub log_positive : (x : E) → (x ≡ null m → ⊥) → 0 < m.log x
  log_positive x h = let ne : m.log x ≡ 0 → ⊥ = λ e. h (log_zero x e) in omega arith

  -- a multiple of an element that is given by a logarithm of any size
  pub multiple_at : (s : S) (a : ℕ) → multiple m s (m.at_log a) ≡ m.at_log (m.scalars.number s * a)
  unfolding multiple
  multiple_at s a =
      let q = m.scalars.order in
      let n = m.scalars.number s in
      same_remainder m (n * m.log (m.at_log a)) (n * a) (ap (λ (x : ℕ). (n * x) % q) (m.full a) ∙ mod_mul_right n a q)

  -- a sum whose parts are known as any logarithms
  sum_of : (x y : E) (a b : ℕ) → x ≡ m.at_log a → y ≡ m.at_log b → sum m x y ≡ m.at_log (a + b)
  sum_of x y a b e f = ap (λ z. sum m z y) e ∙ ap (λ z. sum m (m.at_log a) z) f ∙ sum_at m a b

  grouped : (x y z : E) → sum m (sum m x y) z ≡ sum m x (sum m y z)
  grouped x y z =
      let a = m.log x in
      let b = m.log y in
      let c = m.log z in
      let xy = sum_of x y a b (at_own_log m x) (at_own_log m y) in
      let yz = sum_of y z b c (at_own_log m y) (at_own_log m z) in
      sum_of (sum m x y) z (a + b) c xy (at_own_log m z) ∙ ap m.at_log (add_assoc a b c) ∙
      sym (sum_of x (sum m y z) a (b + c) (at_own_log m x) yz)

  swapped : (x y : E) → sum m x y ≡ sum m y x
  unfolding sum
  swapped x y = ap m.at_log (add_comm (m.log x) (m.log y))

  neutral : (x : E) → sum m x (null m) ≡ x
  unfolding sum
  neutral x = ap (λ (n : ℕ). m.at_log (m.log x + n)) (log_null m) ∙ ap m.at_log {x = m.log x + 0} {y = m.log x} (omega arith) ∙ sym (at_own_log m x)

  cancelled : (x : E) → sum m x (opposite m x) ≡ null m
  unfolding opposite null
  cancelled x =
      let q = m.scalars.order in
      let a = m.log x in
      let low = m.below x in
      let all : a + (q - a) ≡ q = omega arith in
      sum_of x (opposite m x) a (q - a) (at_own_log m x) refl ∙
      same_remainder m (a + (q - a)) 0 (ap (λ (n : ℕ). n % q) all ∙ mod_self q ∙ sym (zero-mod q))

  based : (s : S) → base_multiple m s ≡ multiple m s (generator m)
  unfolding base_multiple multiple
  based s = ap m.at_log (sym (ap (λ (n : ℕ). m.scalars.number s * n) (log_generator m) ∙ mul-one (m.scalars.number s)))

  product_at : (s : S) (x : E) → multiple m s x ≡ m.at_log (m.scalars.number s * m.log x)
  unfolding multiple
  product_at s x = refl

  twice : (s t : S) (x : E) → multiple m (multiplied m.scalars s t) x ≡ multiple m s (multiple m t x)
  unfolding multiplied
  twice s t x =
      let q = m.scalars.order in
      let a = m.scalars.number s in
      let b = m.scalars.number t in
      let l = m.log x in
      product_at (m.scalars.scalar (a * b)) x ∙
      same_remainder m (m.scalars.number (m.scalars.scalar (a * b)) * l) (a * (b * l))
      (ap (λ (n : ℕ). (n * l) % q) (m.scalars.full (a * b)) ∙ mod_mul_left (a * b) l q ∙ ap (λ (n : ℕ). n % q) (mul_assoc a b l)) ∙
      sym (ap (λ y. multiple m s y) (product_at t x) ∙ multiple_at s (b * l))

  shared : (s t : S) (x : E) → multiple m (added m.scalars s t) x ≡ sum m (multiple m s x) (multiple m t x)
  unfolding added
  shared s t x =
      let q = m.scalars.order in
      let a = m.scalars.number s in
      let b = m.scalars.number t in
      let l = m.log x in
      product_at (m.scalars.scalar (a + b)) x ∙
      same_remainder m (m.scalars.number (m.scalars.scalar (a + b)) * l) (a * l + b * l)
      (ap (λ (n : ℕ). (n * l) % q) (m.scalars.full (a + b)) ∙ mod_mul_left (a + b) l q ∙ ap (λ (n : ℕ). n % q) (add-mul a b l)) ∙
      sym (sum_of (multiple m s x) (multiple m t x) (a * l) (b * l) (product_at s x) (product_at t x))

  spread : (s : S) (x y : E) → multiple m s (sum m x y) ≡ sum m (multiple m s x) (multiple m s y)
  unfolding sum
  spread s x y =
      let a = m.scalars.number s in
      multiple_at s (m.log x + m.log y) ∙ ap m.at_log (mul-add a (m.log x) (m.log y)) ∙
      sym (sum_of (multiple m s x) (multiple m s y) (a * m.log x) (a * m.log y) (product_at s x) (product_at s y))

  pub lawful : Lawful m
  lawful = record {
    grouped = grouped;
    swapped = swapped;
    neutral = neutral;
    cancelled = cancelled;
    based = based;
    twice = twice;
    shared = shared;
    spread = spread;
    one_code = one_code m;
  }

  pub unblinds : Unblinds m
  unblinds r k p =
      let q = m.scalars.order in
      let s = m.scalars.part r in
      let a = m.scalars.number s in
      let b = m.scalars.number k in
      let i = m.scalars.number (m.scalars.inverse s) in
      let l = m.log p in
      let x = (b * l) % q in
      let one = m.scalars.inverse_one s (m.scalars.positive r) in
      let inner : multiple m k (multiple m s p) ≡ m.at_log (b * (a * l)) = ap (λ y. multiple m k y) (product_at s p) ∙ multiple_at k (a * l) in
      let order : (i * (b * (a * l))) % q ≡ (b * l) % q =
      sym (mod_mul_right i (b * (a * l)) q) ∙
      ap (λ (n : ℕ). (i * n) % q) (ap (λ (n : ℕ). n % q) (sym (mul_assoc b a l) ∙ ap (λ (n : ℕ). n * l) (mul_comm b a) ∙ mul_assoc a b l) ∙ sym (mod_mul_right a (b * l) q)) ∙
      undone q a i x one (mod-lt (b * l) (order_positive m)) in
      ap (λ y. multiple m (m.scalars.inverse s) y) inner ∙ multiple_at (m.scalars.inverse s) (b * (a * l)) ∙
      same_remainder m (i * (b * (a * l))) (b * l) order ∙ sym (product_at k p)

  -- the response u - c k and the challenge c, over an element and its multiple by k, make up u
  pub responds : (u c k : S) (x : E) →
      sum m (multiple m (subtracted m.scalars u (multiplied m.scalars c k)) x) (multiple m c (multiple m k x)) ≡ multiple m u x
  responds u c k x =
      let ck = multiplied m.scalars c k in
      ap (λ y. sum m (multiple m (subtracted m.scalars u ck) x) y) (sym (twice c k x)) ∙ sym (shared (subtracted m.scalars u ck) ck x) ∙
      ap (λ t. multiple m t x) ((reckons m.scalars).undone u ck)

  pub multiple_null : (s : S) → multiple m s (null m) ≡ null m
  unfolding null
  multiple_null s = multiple_at s 0 ∙ ap m.at_log (mul-zero (m.scalars.number s))

  -- a nonzero scalar takes only the null to the null
  pub only_null : (k : K) (x : E) → multiple m (m.scalars.part k) x ≡ null m → x ≡ null m
  only_null k x e =
      let s = m.scalars.part k in
      let i = m.scalars.inverse s in
      let one : multiplied m.scalars i s ≡ m.scalars.scalar 1 =
      (reckons m.scalars).products_swapped i s ∙ (reckons m.scalars).inverted s (m.scalars.positive k) in
      let low = m.scalars.low in
      let number : m.scalars.number (m.scalars.scalar 1) ≡ 1 = m.scalars.full 1 ∙ mod-eq_of_lt (omega arith) in
      at_own_log m x ∙ ap m.at_log (sym (one-mul (m.log x)) ∙ ap (λ (n : ℕ). n * m.log x) (sym number)) ∙ sym (product_at (m.scalars.scalar 1) x) ∙
      ap (λ t. multiple m t x) (sym one) ∙ twice i s x ∙ ap (λ y. multiple m i y) e ∙ multiple_null i

-- what takes an element to another, by the logarithms
module _ (q : ℕ) (l i : ℕ) (one : (l * i) % q ≡ 1) where
  carries : (n : ℕ) → n < q → (((n * i) % q) * l) % q ≡ n
  carries n h =
      mod_mul_left (n * i) l q ∙ ap (λ (x : ℕ). x % q) (mul_assoc n i l ∙ ap (λ (x : ℕ). n * x) (mul_comm i l)) ∙ sym (mod_mul_right n (l * i) q) ∙
      ap (λ (x : ℕ). (n * x) % q) one ∙ ap (λ (x : ℕ). x % q) (mul-one n) ∙ mod-eq_of_lt h

  only : (j n : ℕ) → j < q → (j * l) % q ≡ n → j ≡ (n * i) % q
  only j n h e =
      sym (mod-eq_of_lt h) ∙ ap (λ (x : ℕ). x % q) (sym (mul-one j)) ∙ ap (λ (x : ℕ). (j * x) % q) (sym one) ∙ mod_mul_right j (l * i) q ∙
      ap (λ (x : ℕ). x % q) (sym (mul_assoc j l i)) ∙ sym (mod_mul_left (j * l) i q) ∙ ap (λ (x : ℕ). (x * i) % q) e

module _ {E S K : Type 0} (m : Model E S K) where
  same_part : (j k : K) → m.scalars.part j ≡ m.scalars.part k → j ≡ k
  same_part j k e =
      let a = m.scalars.again j in
      let b = m.scalars.again k in
      let same : Some j ≡ Some k = sym a ∙ ap m.scalars.nonzero e ∙ b in
      cc

  pub one_scalar : OneScalar m
  one_scalar p x hp hx =
      let q = m.scalars.order in
      let l = m.log p in
      let n = m.log x in
      let a = m.scalars.scalar l in
      let number-a : m.scalars.number a ≡ l = m.scalars.full l ∙ mod-eq_of_lt (m.below p) in
      let pos = log_positive m p hp in
      let i = m.scalars.number (m.scalars.inverse a) in
      let one : (l * i) % q ≡ 1 = ap (λ (y : ℕ). (y * i) % q) (sym number-a) ∙ m.scalars.inverse_one a (subst (λ (y : ℕ). 0 < y) (sym number-a) pos) in
      let s = m.scalars.scalar (n * i) in
      let number-s = m.scalars.full (n * i) in
      let hits : (m.scalars.number s * l) % q ≡ n = ap (λ (y : ℕ). (y * l) % q) number-s ∙ carries q l i one n (m.below x) in
      let some-n = log_positive m x hx in
      let not-zero : m.scalars.number s ≡ 0 → ⊥ =
      λ z. let none : n ≡ 0 = sym hits ∙ ap (λ (y : ℕ). (y * l) % q) z ∙ ap (λ (y : ℕ). y % q) (zero-mul l) ∙ zero-mod q in omega arith in
      let found = m.scalars.some s (omega arith) in
      let k = found.0 in (
        k,
        m.faithful (multiple m (m.scalars.part k) p) x (log_multiple m (m.scalars.part k) p ∙ ap (λ t. (m.scalars.number t * l) % q) found.2 ∙ hits),
        λ j e.
            same_part j k
            (m.scalars.faithful (m.scalars.part j) (m.scalars.part k)
            (only q l i one (m.scalars.number (m.scalars.part j)) n (m.scalars.below (m.scalars.part j)) (sym (log_multiple m (m.scalars.part j) p) ∙ ap m.log e) ∙
            sym number-s ∙ sym (ap m.scalars.number found.2))),
      )
