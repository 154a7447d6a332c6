-- Worked values of res2039, and the sentence that holds of all of them.
use Rattle.std.specs.Prelude.{◌≡◌, ℕ, List, [], ◌∷◌, Some, None}
use Rattle.std.specs.List.{AllByRecursion}
use Rattle.numbers.specs.Bytes.{written, word}
use Rattle.scalar.specs.declared.modular.Scalar.{Scalar}
use Rattle.group.specs.Elements.{multiple}
use Rattle.res2039.specs.Kind.{residues}
use Rattle.res2039.specs.declared.residue.Residue.{Residue}

-- scalar, element, multiple: the generator is 4
abbrev pub multiples : List (ℕ × ℕ × ℕ)
multiples = (3, 4, 64) ∷ (6, 4, 18) ∷ (1018, 4, 510) ∷ (510, 4, 2) ∷ (2, 362, 548) ∷ []

-- bytes that are no code
abbrev pub refused : List (List ℕ)
refused = (0x00 ∷ 0x00 ∷ []) ∷ (0x07 ∷ 0xF6 ∷ []) ∷ (0x07 ∷ 0xF7 ∷ []) ∷ []

-- the word of the 32 bytes, and the number of the element that they map to: 1 is the null
abbrev pub maps : List (ℕ × ℕ)
maps = (6, 49) ∷ (0, 1) ∷ (2037, 1) ∷ []

-- mapped input, blind, blinded item, key, answer, unblinded answer
abbrev pub orders : List (ℕ × ℕ × ℕ × ℕ × ℕ × ℕ)
orders = (49, 3, 1426, 2, 593, 362) ∷ (362, 511, 1426, 2, 593, 548) ∷ []

-- the scalar s takes the element whose code is the number a to that whose code is b
abbrev pub Takes : Scalar 1019 → ℕ → ℕ → Type 0
Takes s a b =
    (x : Residue) × (y : Residue) × (residues.element (written 2 a) ≡ Some x) × (residues.element (written 2 b) ≡ Some y) × (multiple residues s x ≡ y)

-- the scalar of a number
abbrev pub scalar : ℕ → Scalar 1019
scalar n = residues.scalars.scalar n

-- the blind takes the input to the blinded item, the key that to the answer, and the blind's inverse the answer back
abbrev pub Ordered : ℕ × ℕ × ℕ × ℕ × ℕ × ℕ → Type 0
Ordered r =
    Takes (scalar r.1) r.0 r.2 × Takes (scalar r.3) r.2 r.4 × Takes (residues.scalars.inverse (scalar r.1)) r.4 r.5

abbrev pub Worked : Type 0
Worked =
    AllByRecursion (λ r. Takes (scalar r.0) r.1 r.2) multiples × AllByRecursion (λ bytes. residues.element bytes ≡ None) refused ×
    AllByRecursion (λ r. (bytes : List ℕ) → word bytes ≡ r.0 → (residues.map bytes).value ≡ r.1) maps × AllByRecursion Ordered orders
