-- What the steps of res2039 answer, told by the numbers.
use Rattle.std.proofs.Common.{◌≡◌, ℕ, ◌+◌, ◌-◌, ◌*◌, ◌/◌, ◌%◌, ◌^◌, ◌<◌, List, [], ◌∷◌, length, get_or, sym, ap, ◌∙◌, mod-eq_of_lt, arith, lit<}
use native.Mathlib.Nat.{mod-add-div}
use Rattle.std.proofs.lemmas.Nat.{div-mul-add, mod-mul-add}
use Rattle.numbers.specs.Cycle.{exponent}
use Rattle.numbers.proofs.Mod.{negated}
use Rattle.numbers.proofs.Powers.{log_of, log_below, log_product, log_raised}
use Rattle.scalar.specs.Modulo.{modulo}
use Rattle.scalar.specs.declared.modular.Scalar.{Scalar}
use Rattle.group.specs.Elements.{null, generator, sum, opposite, base_multiple}
use Rattle.group.proofs.Logs.{by_log}
use Rattle.res2039.specs.Powers2039.{cycle}
use Rattle.res2039.specs.Elements.{logarithm, code_of}
use Rattle.res2039.specs.Laws.{coded}
use Rattle.res2039.specs.Kind.{residues}
use Rattle.res2039.specs.declared.residue.Residue.{Residue}

pub null_is : (r : Residue) → r.value ≡ 1 → r ≡ null residues
unfolding null logarithm modulo
null_is r e = by_log residues r 0 (ap (exponent 2039 4 1019) e ∙ log_of cycle 0 (lit< tt))

pub generator_is : (r : Residue) → r.value ≡ 4 → r ≡ generator residues
unfolding generator logarithm modulo
generator_is r e = by_log residues r 1 (ap (exponent 2039 4 1019) e ∙ log_of cycle 1 (lit< tt))

pub sum_is : (x y r : Residue) → r.value ≡ x.value * y.value % 2039 → r ≡ sum residues x y
unfolding sum logarithm modulo
sum_is x y r e =
    by_log residues r (logarithm x + logarithm y)
    (ap (exponent 2039 4 1019) e ∙ log_product cycle x.value y.value x.member y.member)

pub opposite_is : (x r : Residue) → r.value ≡ x.value ^ 1018 % 2039 → r ≡ opposite residues x
unfolding opposite logarithm modulo
opposite_is x r e =
    by_log residues r (1019 - logarithm x)
    (ap (exponent 2039 4 1019) e ∙ log_raised cycle x.value 1018 x.member ∙ negated 1019 (logarithm x) (log_below cycle x.value x.member))

pub base_is : (s : Scalar 1019) (r : Residue) → r.value ≡ 4 ^ s.value % 2039 → r ≡ base_multiple residues s
unfolding base_multiple logarithm modulo
base_is s r e =
    by_log residues r s.value (ap (exponent 2039 4 1019) e ∙ log_of cycle s.value s.below ∙ sym (mod-eq_of_lt s.below))

-- the code of an element is its number in two bytes
pub code_is : (x : Residue) (high low : ℕ) → low < 256 → x.value ≡ high * 256 + low → code_of x ≡ high ∷ low ∷ []
unfolding code_of
code_is x high low h e =
    ap (λ (n : ℕ). n / 256 ∷ n % 256 ∷ []) e ∙ ap (λ (n : ℕ). n ∷ (high * 256 + low) % 256 ∷ []) (div-mul-add high 256 low h) ∙
    ap (λ (n : ℕ). high ∷ n ∷ []) (mod-mul-add high 256 low h)

pub number_of_code : (x : Residue) (bytes : List ℕ) → code_of x ≡ bytes → x.value ≡ get_or bytes 0 0 * 256 + get_or bytes 1 0
unfolding code_of
number_of_code x bytes e =
    let high = ap (λ bs. get_or bs 0 0) e in
    let low = ap (λ bs. get_or bs 1 0) e in
    omega (arith, mod-add-div x.value 256)

-- bytes of another length are no code
pub no_code : (bytes : List ℕ) → (length bytes ≡ 2 → ⊥) → (x : Residue) → code_of x ≡ bytes → ⊥
no_code bytes h x e = h (ap length (sym e) ∙ coded x)
