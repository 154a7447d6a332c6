-- What the commands on groups and tokens answer.
use Rattle.std.specs.Prelude.{ℕ, not, List, [], ◌∷◌, length, Ok, Err, Option, Result, ◌==◌}
use Rattle.std.specs.List.{find}
use Rattle.std.specs.Option.{ok_or}
use Rattle.std.specs.Str.{bytes_eq}
use Rattle.circ523.specs.Kind.{points}
use Rattle.faults.specs.declared.BatchFault.{BatchFault}
use Rattle.faults.specs.declared.BatchFault.TheVariants.{Wire}
use Rattle.faults.specs.declared.GroupFault.TheVariants.{NoElement, NoScalar}
use Rattle.faults.specs.declared.WireFault.TheVariants.{WrongLength}
use Rattle.group.specs.Elements.{base_multiple}
use Rattle.group.specs.Model.{Model}
use Rattle.messages.specs.Answers.{ruled}
use Rattle.numbers.specs.Bytes.{code_bytes}
use Rattle.numbers.specs.declared.code.Code.{Code}
use Rattle.res2039.specs.Kind.{residues}
use Rattle.scalar.specs.Scalars.{scalar_of}
use Rattle.token.specs.Tokens.{then, of_group, input_answer, direct_answer}
use Rattle.commands.specs.declared.Kind.{Kind}
use Rattle.commands.specs.declared.Kind.TheVariants.{Res2039, Circ523}

module _ {E S K : Type 0} (m : Model E S K) where
  -- bytes that are a code: the length first
  unfoldable pub decoded : List ℕ → Result (Unit {0}) BatchFault
  decoded code =
      ruled ((not (length code == m.element_width), Wire WrongLength) ∷ []) (then (of_group (ok_or (m.element code) NoElement)) (λ _. Ok tt))

  -- the code of the element that 32 bytes map to
  unfoldable pub mapped : List ℕ → Result (List ℕ) BatchFault
  mapped bytes = ruled ((not (length bytes == 32), Wire WrongLength) ∷ []) (Ok (m.code (m.map bytes)))

  -- the code of the base multiple of a scalar, which may be 0: the length first
  unfoldable pub based : List ℕ → Result (List ℕ) BatchFault
  based code =
      ruled
      ((not (length code == m.scalars.width), Wire WrongLength) ∷ [])
      (then (of_group (ok_or (scalar_of m.scalars code) NoScalar)) (λ s. Ok (m.code (base_multiple m s))))

-- the bytes of a code that is answered
abbrev pub coded : Result Code BatchFault → Result (List ℕ) BatchFault
coded (Ok c) = Ok (code_bytes c)
coded (Err f) = Err f

-- the name of each kind's group
abbrev pub kind_name : Kind → List ℕ
kind_name Res2039 = residues.name
kind_name Circ523 = points.name

-- the kind of a name
abbrev pub kind_of : List ℕ → Option Kind
kind_of w = find (λ k. bytes_eq w (kind_name k)) (Res2039 ∷ Circ523 ∷ [])

-- the same calls, in the chosen group
unfoldable pub decode_in : Kind → List ℕ → Result (Unit {0}) BatchFault
decode_in Res2039 code = decoded residues code
decode_in Circ523 code = decoded points code

unfoldable pub map_in : Kind → List ℕ → Result (List ℕ) BatchFault
map_in Res2039 bytes = mapped residues bytes
map_in Circ523 bytes = mapped points bytes

unfoldable pub base_in : Kind → List ℕ → Result (List ℕ) BatchFault
base_in Res2039 code = based residues code
base_in Circ523 code = based points code

unfoldable pub input_in : Kind → ℕ → List ℕ → List ℕ → List ℕ → Result (List ℕ) BatchFault
input_in Res2039 epoch nonce context pk = input_answer residues epoch nonce context pk
input_in Circ523 epoch nonce context pk = input_answer points epoch nonce context pk

-- with a scratch of 1,024 bytes, which is long enough
unfoldable pub direct_in : Kind → List ℕ → List ℕ → Result (List ℕ) BatchFault
direct_in Res2039 key input = direct_answer residues 1024 key input
direct_in Circ523 key input = direct_answer points 1024 key input
