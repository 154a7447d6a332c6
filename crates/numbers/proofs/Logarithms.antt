-- The laws of logarithms, drawn from a numbering of a group's members.
use Rattle.std.proofs.Common.{◌≡◌, ℕ, ◌+◌, ◌-◌, ◌*◌, ◌%◌, ◌<◌, Bool, true, false, T, sym, refl, ap, ◌∙◌, subst, mod-lt, mod-eq_of_lt, arith}
use native.Mathlib.Nat.{mod_self, sub-zero, add-mul-mod_self_left}
use native.Mathlib.Decide.{dec_lt}
use Rattle.numbers.specs.Numbered.{Numbered, Same, number_of}
use Rattle.numbers.proofs.Sought.{found}

pub true_from : (b : Bool) → T b → b ≡ true
true_from true t = refl
true_from false t = absurd t

-- two numbers below q whose sum is a multiple of q
balanced_by : (q l m : ℕ) → Dec (l + m < q) → Dec (0 < l) → l < q → m < q → (l + m) % q ≡ 0 → m ≡ (q - l) % q
balanced_by q l m (yes h) d hl hm e =
    let none : l + m ≡ 0 = sym (mod-eq_of_lt h) ∙ e in
    let l0 : l ≡ 0 = omega arith in
    let m0 : m ≡ 0 = omega arith in
    m0 ∙ sym (ap (λ (k : ℕ). (q - k) % q) l0 ∙ ap (λ (k : ℕ). k % q) (sub-zero q) ∙ mod_self q)
balanced_by q l m (no h) (yes p) hl hm e =
    let once : l + m ≡ (l + m - q) + q * 1 = omega arith in
    let rest : l + m - q ≡ 0 = sym (mod-eq_of_lt (omega arith)) ∙ sym (add-mul-mod_self_left (l + m - q) q 1) ∙ ap (λ (k : ℕ). k % q) (sym once) ∙ e in
    let is : q - l ≡ m = omega arith in
    sym (ap (λ (k : ℕ). k % q) is ∙ mod-eq_of_lt hm)
balanced_by q l m (no h) (no p) hl hm e = absurd (omega arith)

balanced : (q l m : ℕ) → l < q → m < q → (l + m) % q ≡ 0 → m ≡ (q - l) % q
balanced q l m = balanced_by q l m (dec_lt (l + m) q) (dec_lt 0 l)

module _ {A : Type 0} {Member : A → Type 0} {sum : A → A → A} {at : ℕ → A} {q : ℕ} {same : A → A → Bool}
    (numbered : Numbered Member sum at q) (equal : Same same) where
  abbrev log : A → ℕ
  log = number_of same at q

  sought_out : (a : A) → Member a → (log a < q) × (at (log a) ≡ a)
  sought_out a m =
      let l = numbered.all a m in
      let f = found (λ k. same (at k) a) l.0 q l.1 (subst T (sym ((equal (at l.0) a).1 l.2)) tt) in
      (f.0, (equal (at (log a)) a).0 (true_from (same (at (log a)) a) f.1))

  pub log_below : (a : A) → Member a → log a < q
  log_below a m = (sought_out a m).0

  pub at_log : (a : A) → Member a → at (log a) ≡ a
  at_log a m = (sought_out a m).1

  pub log_at : (k : ℕ) → k < q → log (at k) ≡ k
  log_at k h =
      let m = numbered.member k h in
      numbered.apart (log (at k)) k (log_below (at k) m) h (at_log (at k) m)

  pub log_same : (a b : A) → Member a → Member b → log a ≡ log b → a ≡ b
  log_same a b m n e = sym (at_log a m) ∙ ap at e ∙ at_log b n

  pub sum_at : (a b : A) → Member a → Member b → sum a b ≡ at ((log a + log b) % q)
  sum_at a b m n =
      ap (λ c. sum c b) (sym (at_log a m)) ∙ ap (sum (at (log a))) (sym (at_log b n)) ∙
      numbered.sums (log a) (log b) (log_below a m) (log_below b n)

  pub sum_member : (a b : A) → Member a → Member b → Member (sum a b)
  sum_member a b m n = subst Member (sym (sum_at a b m n)) (numbered.member ((log a + log b) % q) (mod-lt _ numbered.some))

  pub log_sum : (a b : A) → Member a → Member b → log (sum a b) ≡ (log a + log b) % q
  log_sum a b m n = ap log (sum_at a b m n) ∙ log_at ((log a + log b) % q) (mod-lt _ numbered.some)

  -- what gives null with a is a's opposite
  pub log_opposite : (a b : A) → Member a → Member b → sum a b ≡ at 0 → log b ≡ (q - log a) % q
  log_opposite a b m n e =
      balanced q (log a) (log b) (log_below a m) (log_below b n) (sym (log_sum a b m n) ∙ ap log e ∙ log_at 0 numbered.some)
