-- What a line says, from its words.
use Rattle.std.specs.Prelude.{ℕ, cond, List, [], ◌∷◌, length, Some, None, Ok, Err, codes, Option, Result, nat_lt}
use Rattle.std.specs.Option.{option_map}
use Rattle.std.specs.List.{prefix_len}
use Rattle.std.specs.Str.{bytes_eq}
use Rattle.text.specs.Classes.{name_character}
use Rattle.text.specs.Lines.{left}
use Rattle.script.specs.Commands.{command_of}
use Rattle.script.specs.declared.command.Command.{Command}
use Rattle.script.specs.declared.errors.LineFault.{LineFault}
use Rattle.script.specs.declared.errors.LineFault.TheVariants.{UnknownCommand, MissingWord, BadName}
use Rattle.script.specs.declared.statements.Statement.{Statement}

-- the name under which the answer is kept, the command, and the words after it
pub record Parts : Type 0 where
  pub name : Option (List ℕ)
  pub command : Command
  pub arguments : List (List ℕ)

-- which word of the line is the command
abbrev pub command_at : Option (List ℕ) → ℕ
command_at None = 1
command_at (Some n) = 3

abbrev pub called_as : Option (List ℕ) → List (List ℕ) → Option Command → Result (Option Parts) LineFault
called_as name ws None = Err (UnknownCommand (command_at name))
called_as name ws (Some c) = Ok (Some (record { name = name; command = c; arguments = ws }))

-- a word that should be a command, and the words after it
abbrev pub calling : Option (List ℕ) → List ℕ → List (List ℕ) → Result (Option Parts) LineFault
calling name w ws = called_as name ws (command_of w)

-- the words after `NAME =`
abbrev pub after_mark : List ℕ → List (List ℕ) → Result (Option Parts) LineFault
after_mark name [] = Err (MissingWord 3)
after_mark name (w ∷ ws) = calling (Some name) w ws

-- a word in front of `=`, which is a name if all its characters are a name's
abbrev pub naming : List ℕ → List (List ℕ) → Result (Option Parts) LineFault
naming w ws = cond (nat_lt (prefix_len name_character w) (length w)) (Err (BadName 1)) (after_mark w ws)

-- what the words of a line say
abbrev pub statement : List (List ℕ) → Result (Option Parts) LineFault
statement [] = Ok None
statement (w ∷ []) = calling None w []
statement (w ∷ v ∷ ws) = cond (bytes_eq v (codes "=")) (naming w ws) (calling None w (v ∷ ws))

abbrev pub parts : Statement → Parts
parts s = record { name = option_map (λ x. x.now) s.name; command = s.command; arguments = left s.arguments }

-- the same of what is made of a line
abbrev pub parsed : Result (Option Statement) LineFault → Result (Option Parts) LineFault
parsed (Ok None) = Ok None
parsed (Ok (Some s)) = Ok (Some (parts s))
parsed (Err f) = Err f
