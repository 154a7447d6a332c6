-- The line that is printed for a report.
use Rattle.std.specs.Prelude.{◌≡◌, ℕ, Bool, true, false, List, [], ◌∷◌, Ok, Err, vec_items, codes, decimal, Result}
use Rattle.commands.specs.declared.Kind.{Kind}
use Rattle.faults.specs.Numbers.{layer_name}
use Rattle.faults.specs.declared.Refusal.{Refusal}
use Rattle.std.specs.List.{flat_map}
use Rattle.text.specs.Hexadecimal as hex
use Rattle.script.specs.Arguments.{Table, argument}
use Rattle.script.specs.Commands.{word_of}
use Rattle.script.specs.declared.answers.Answer.{Answer}
use Rattle.script.specs.declared.answers.Answer.TheVariants.{Done, Number, Pair, Flag, Bytes, Chose}
use Rattle.script.specs.declared.answers.Report.{Report}

-- texts one after another
abbrev pub row : List (List ℕ) → List ℕ
row ts = flat_map (λ t. t) ts

-- bytes as a script writes them: `-` for none
abbrev pub in_script : List ℕ → List ℕ
in_script [] = codes "-"
in_script (b ∷ bs) = hex.written (b ∷ bs)

abbrev pub yes_no : Bool → List ℕ
yes_no true = codes "yes"
yes_no false = codes "no"

-- what a command answers
pub data Said : Type 0 where
  done : Said
  number : ℕ → Said
  pair : ℕ → ℕ → Said
  flag : Bool → Said
  bytes : List ℕ → Said
  chose : Kind → Said

abbrev pub said : Answer → Said
said Done = done
said (Number n) = number n
said (Pair m n) = pair m n
said (Flag b) = flag b
said (Bytes bs) = bytes (vec_items bs)
said (Chose k) = chose k

abbrev pub outcome_of : Result Answer Refusal → Result Said Refusal
outcome_of (Ok a) = Ok (said a)
outcome_of (Err f) = Err f

-- what comes after the command's word
abbrev pub told : Result Said Refusal → List (List ℕ)
told (Ok done) = codes ": ok" ∷ []
told (Ok (chose k)) = codes ": ok" ∷ []
told (Ok (number n)) = codes ": ok " ∷ decimal n ∷ []
told (Ok (pair m n)) = codes ": ok " ∷ decimal m ∷ codes " " ∷ decimal n ∷ []
told (Ok (flag b)) = codes ": ok " ∷ yes_no b ∷ []
told (Ok (bytes bs)) = codes ": ok " ∷ in_script bs ∷ []
told (Err f) = codes ": fault " ∷ decimal f.number ∷ codes " " ∷ layer_name f.layer ∷ codes " item " ∷ decimal f.item ∷ []

-- `COMMAND: ok`, `COMMAND: ok ANSWER` or `COMMAND: fault NUMBER LAYER item ITEM`
abbrev pub printed : Report → List ℕ
printed r = row (word_of r.command ∷ told (outcome_of r.outcome))

-- The law of answers: bytes that a report prints stand for themselves as a word of a later line, whatever is
-- kept under names.
abbrev pub AnswersAreArguments : Type 0
AnswersAreArguments = (table : Table) (at : ℕ) (bs : List ℕ) → hex.Bytes bs → argument table at (in_script bs) ≡ Ok bs
