-- That res2039 keeps the laws of a group: proofs that its model holds, so they stand beside it.
use Rattle.std.specs.Prelude.{◌≡◌, ℕ, ◌%◌, ◌^◌, ◌<◌, Bool, true, false, cond, ◌&&◌, List, [], ◌∷◌, length, Some, None, ◌==◌, nat_lt, refl}
use Rattle.std.proofs.Common.{sym, ap, ◌∙◌, subst, mod-lt, mod-eq_of_lt, arith, lit<, lit≤, eq-eqb}
use mathlib.Core.HLevel.{is_prop→PathP, ×_prop}
use Rattle.std.proofs.Math.Bridge.{le_prop}
use Rattle.std.proofs.Math.Nat.{ℕ_set, mod-add-div}
use Rattle.std.proofs.lemmas.Bool.{eqb-true, lt-ltb, and_from, and_parts}
use Rattle.std.proofs.lemmas.Nat.{div_below}
use Rattle.std.specs.List.{AllByRecursion}
use Rattle.numbers.specs.Bytes.{are_bytes, read, written}
use Rattle.numbers.specs.Cycle.{Member}
use Rattle.numbers.proofs.Bytes.{below_bytes, bytes_below, written_read}
use Rattle.numbers.proofs.Powers.{log_below, log_same, log_of}
use Rattle.scalar.specs.Modulo.{modulo}
use Rattle.scalar.specs.declared.order.Order.{Order}
use Rattle.res2039.specs.Powers2039.{cycle, order_prime}
use Rattle.res2039.specs.Elements.{logarithm, power_of_4, code_of, is_member, member_by, element_of}
use Rattle.res2039.specs.declared.residue.Residue.{Residue}

-- 1019 is prime
unfoldable pub order : Order 1019
order = record { low = lit≤ tt; high = lit< tt; prime = order_prime }

pub same_value : (x y : Residue) → x.value ≡ y.value → x ≡ y
same_value x y e = λ i. record {
  value = e i;
  member = is_prop→PathP (λ j. Member 2039 1019 (e j)) (λ j. ×_prop le_prop (ℕ_set _ _)) x.member y.member i;
}

pub below : (x : Residue) → logarithm x < (modulo order).order
unfolding logarithm modulo
below x = log_below cycle x.value x.member

pub faithful : (x y : Residue) → logarithm x ≡ logarithm y → x ≡ y
unfolding logarithm
faithful x y e = same_value x y (log_same cycle x.value y.value x.member y.member e)

pub full : (n : ℕ) → logarithm (power_of_4 n) ≡ n % (modulo order).order
unfolding logarithm power_of_4 modulo
full n = log_of cycle (n % 1019) (mod-lt n (lit< tt))

pub coded : (x : Residue) → length (code_of x) ≡ 2
unfolding code_of
coded x = refl

pub coded_bytes : (x : Residue) → AllByRecursion (λ b. b < 256) (code_of x)
unfolding code_of
coded_bytes x =
    let small = x.member.0 in
    (div_below x.value 256 256 (lit< tt) (omega arith), (mod-lt x.value {m = 256} (lit< tt), tt))

-- a member is found by its test
pub member_found : (x : Residue) (b : Bool) (e : is_member x.value ≡ b) → member_by x.value b e ≡ Some x
member_found x true e = ap (λ y. Some y) (same_value _ x refl)
member_found x false e =
    let yes = and_from (nat_lt x.value 2039) (x.value ^ 1019 % 2039 == 1) (lt-ltb x.value 2039 x.member.0) (eq-eqb (x.value ^ 1019 % 2039) 1 x.member.1) in
    let z : ◌≡◌ {A = ℕ} 0 1 = cc in
    absurd (omega arith)

pub value_found : (a : ℕ) (b : Bool) (e : is_member a ≡ b) (x : Residue) → member_by a b e ≡ Some x → x.value ≡ a
value_found a true e x f = let same : Some (record { value = a; member = _ }) ≡ Some x = f in cc
value_found a false e x f = let z : ◌≡◌ {A = ℕ} 0 1 = cc in absurd (omega arith)

two_written : (x : Residue) → code_of x ≡ written 2 x.value
unfolding code_of
two_written x =
    let small = x.member.0 in
    ap (λ (h : ℕ). h ∷ x.value % 256 ∷ []) (sym (mod-eq_of_lt (div_below x.value 256 256 (lit< tt) (omega arith))))

read_code : (x : Residue) → read (code_of x) ≡ x.value
unfolding code_of
read_code x = omega (arith, mod-add-div x.value 256)

pub decoded : (x : Residue) → element_of (code_of x) ≡ Some x
unfolding element_of
decoded x =
    let test = and_from (are_bytes (code_of x)) (length (code_of x) == 2) (below_bytes (code_of x) (coded_bytes x)) (eq-eqb (length (code_of x)) 2 (coded x)) in
    ap (λ t. cond t (member_by (read (code_of x)) (is_member (read (code_of x))) refl) None) test ∙
    subst (λ (n : ℕ). member_by n (is_member n) refl ≡ Some x) (sym (read_code x)) (member_found x (is_member x.value) refl)

encoded_by : (bytes : List ℕ) (x : Residue) (b : Bool) → (are_bytes bytes && length bytes == 2) ≡ b →
    cond b (member_by (read bytes) (is_member (read bytes)) refl) None ≡ Some x → code_of x ≡ bytes
encoded_by bytes x true t e =
    let both = and_parts (are_bytes bytes) (length bytes == 2) t in
    let v = value_found (read bytes) (is_member (read bytes)) refl x e in
    two_written x ∙ ap (λ (n : ℕ). written 2 n) v ∙ ap (λ (w : ℕ). written w (read bytes)) (sym (eqb-true (length bytes) 2 both.1)) ∙
    written_read bytes (bytes_below bytes both.0)
encoded_by bytes x false t e = let z : ◌≡◌ {A = ℕ} 0 1 = cc in absurd (omega arith)

pub encoded : (bytes : List ℕ) (x : Residue) → element_of bytes ≡ Some x → code_of x ≡ bytes
unfolding element_of
encoded bytes x e = encoded_by bytes x (are_bytes bytes && length bytes == 2) refl e
