-- Multiples of pairs, and sums on the circle.
use Rattle.std.proofs.Common.{◌≡◌, ℕ, zero, suc, ◌+◌, ◌*◌, ◌/◌, ◌%◌, ◌<◌, sym, refl, ap, ◌∙◌, mod-lt, suc-mul, suc-add, zero-add, zero-mul, arith, lit<}
use native.Mathlib.Nat.{mod-add-div}
use Rattle.numbers.proofs.Mod.{mod_mul_left}
use Rattle.circle.specs.declared.Pair.{Pair}
use Rattle.numbers.specs.Repeated.{repeated}
use Rattle.circle.specs.Circle.{plus, null, times, opposite, OnCircle}
use Rattle.circle.specs.Sums.{alike, same, linear, equal, plus_comm, plus_assoc, null_plus}

-- The numbers of a multiple are below 523.
pub times_x : (n : ℕ) (a : Pair) → (times n a).x < 523
unfolding times
times_x zero a = lit< tt
times_x (suc n) a = mod-lt _ (lit< tt)

pub times_y : (n : ℕ) (a : Pair) → (times n a).y < 523
unfolding times
times_y zero a = lit< tt
times_y (suc n) a = mod-lt _ (lit< tt)

pub null_times : (n : ℕ) (a : Pair) → plus null (times n a) ≡ times n a
null_times n a = null_plus (times n a) (times_x n a) (times_y n a)

pub times_suc : (n : ℕ) (a : Pair) → times (suc n) a ≡ plus (times n a) a
unfolding times
times_suc n a = refl

pub times_zero : (a : Pair) → times 0 a ≡ null
unfolding times
times_zero a = refl

-- so many of a pair joined are its multiple
pub multiple : (n : ℕ) (a : Pair) → repeated null plus n a ≡ times n a
unfolding repeated
multiple zero a = sym (times_zero a)
multiple (suc n) a = ap (λ b. plus b a) (multiple n a) ∙ sym (times_suc n a)

-- (m + n)·a = m·a + n·a
pub times_add : (m n : ℕ) (a : Pair) → times (m + n) a ≡ plus (times m a) (times n a)
times_add zero n a =
    ap (λ (k : ℕ). times k a) (zero-add n) ∙ sym (null_times n a) ∙ ap (λ b. plus b (times n a)) (sym (times_zero a))
times_add (suc m) n a =
    ap (λ (k : ℕ). times k a) (suc-add m n) ∙ times_suc (m + n) a ∙ ap (λ b. plus b a) (times_add m n a) ∙
    plus_assoc (times m a) (times n a) a ∙ ap (plus (times m a)) (plus_comm (times n a) a) ∙
    sym (plus_assoc (times m a) a (times n a)) ∙ ap (λ b. plus b (times n a)) (sym (times_suc m a))

-- n·(a + a) = (n + n)·a
pub times_twice : (n : ℕ) (a : Pair) → times n (plus a a) ≡ times (n + n) a
times_twice zero a = times_zero (plus a a) ∙ sym (times_zero a)
times_twice (suc n) a =
    let more : suc (suc (n + n)) ≡ suc n + suc n = omega arith in
    times_suc n (plus a a) ∙ ap (λ b. plus b (plus a a)) (times_twice n a) ∙ sym (plus_assoc (times (n + n) a) a a) ∙
    ap (λ b. plus b a) (sym (times_suc (n + n) a)) ∙ sym (times_suc (suc (n + n)) a) ∙ ap (λ (k : ℕ). times k a) more

-- m·(n·a) = (m n)·a
pub times_times : (m n : ℕ) (a : Pair) → times m (times n a) ≡ times (m * n) a
times_times zero n a = times_zero (times n a) ∙ sym (ap (λ (k : ℕ). times k a) (zero-mul n) ∙ times_zero a)
times_times (suc m) n a =
    times_suc m (times n a) ∙ ap (λ b. plus b (times n a)) (times_times m n a) ∙ sym (times_add (m * n) n a) ∙
    ap (λ (k : ℕ). times k a) (sym (suc-mul m n))

-- The circle is closed under the sum: (x1² + y1²)(x2² + y2²) = (x1x2 − y1y2)² + (x1y2 + x2y1)².
pub norm : (u v : ℕ) → (u % 523 * (u % 523) + v % 523 * (v % 523)) % 523 ≡ (u * u + v * v) % 523
norm u v =
    linear u v (u % 523) (v % 523) ∙ equal _ _ (omega arith) ∙ linear u v u v

pub circle_plus : (a b : Pair) → OnCircle a → OnCircle b → OnCircle (plus a b)
circle_plus a b h k =
    let u = a.x * b.x + 522 * (a.y * b.y) in
    let v = a.x * b.y + b.x * a.y in
    let m = a.x * a.x + a.y * a.y in
    let n = b.x * b.x + b.y * b.y in
    norm u v ∙ alike (u * u + v * v) (m * n) 0 (2 * (a.x * b.x * (a.y * b.y)) + 521 * (a.y * b.y * (a.y * b.y))) (omega arith) ∙
    sym (mod_mul_left m n 523) ∙ ap (λ (t : ℕ). (t * n) % 523) h ∙ equal _ _ (omega arith) ∙ k

pub circle_times : (n : ℕ) (a : Pair) → OnCircle a → OnCircle (times n a)
unfolding times
circle_times zero a h = refl
circle_times (suc n) a h = circle_plus (times n a) a (circle_times n a h) h

-- A point and its opposite sum to null.
pub plus_opposite : (a : Pair) → OnCircle a → plus a (opposite a) ≡ null
plus_opposite a h =
    let w = 0 + 522 * a.y in
    let q = w / 523 in
    let ty : a.y * (w % 523 + 523 * q) ≡ a.y * w = ap (λ (k : ℕ). a.y * k) (mod-add-div w 523) in
    let tx : a.x * (w % 523 + 523 * q) ≡ a.x * w = ap (λ (k : ℕ). a.x * k) (mod-add-div w 523) in
    same _ _
    (alike _ (a.x * a.x + a.y * a.y) (522 * (a.y * q)) (521 * (a.y * a.y)) (omega (arith, ty)) ∙ h)
    (alike _ 0 (a.x * q) (a.x * a.y) (omega (arith, tx)))

pub circle_opposite : (a : Pair) → OnCircle a → OnCircle (opposite a)
circle_opposite a h =
    let w = 0 + 522 * a.y in
    let q = w / 523 in
    let t : w * w ≡ (w % 523 + 523 * q) * (w % 523 + 523 * q) = ap (λ (k : ℕ). k * k) (sym (mod-add-div w 523)) in
    alike _ (a.x * a.x + a.y * a.y) (523 * (q * q) + 2 * (q * (w % 523))) (521 * (a.y * a.y)) (omega (arith, t)) ∙ h
