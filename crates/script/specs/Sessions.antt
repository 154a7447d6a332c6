-- What a line of a script does.
use Rattle.std.specs.Prelude.{◌≡◌, ℕ, ◌+◌, cond, ◌⊎◌, List, Some, None, Ok, Err, Option, Result}
use Rattle.commands.specs.Calls.{decode_in, map_in, base_in, input_in, direct_in}
use Rattle.commands.specs.declared.Kind.{Kind}
use Rattle.digest.specs.Sha256.{digested}
use Rattle.faults.specs.Numbers.{wire_tells, batch_tells}
use Rattle.faults.specs.declared.Refusal.{Refusal}
use Rattle.std.specs.Str.{bytes_eq}
use Rattle.script.specs.Arguments.{Table}
use Rattle.script.specs.Reading.{then}
use Rattle.script.specs.Reports.{Said, bytes, done, number, pair, flag, chose, outcome_of}
use Rattle.script.specs.Statements.{Parts, command_at, statement}
use Rattle.script.specs.Tasks.{Asked, digest, group, decode, map, base, input, direct, book, call, protocol, asked, asked_of}
use Rattle.script.specs.declared.answers.Answer.{Answer}
use Rattle.script.specs.declared.answers.Report.{Report}
use Rattle.script.specs.declared.command.Command.{Command}
use Rattle.script.specs.declared.errors.LineFault.{LineFault}
use Rattle.script.specs.declared.session.Order.{Order}
use Rattle.script.specs.declared.errors.LineFault.TheVariants.{NoBook, NoStation, Memory}

-- what a command says, or what is wrong with its line
abbrev pub Outcome : Type 0
Outcome = Result (Result Said Refusal) LineFault

-- what a call's answer says, or the refusal of its fault
abbrev pub answered : {T F : Type 0} → (T → Said) → (F → Refusal) → Result T F → Result Said Refusal
answered says tells (Ok x) = Ok (says x)
answered says tells (Err f) = Err (tells f)

-- what each task says, in the group that is chosen; what is asked of a book or of a station, a session has none to ask
abbrev pub performed : Kind → Asked → Outcome
performed k (digest bs) = Ok (answered bytes wire_tells (digested bs))
performed k (group g) = Ok (Ok (chose g))
performed k (decode code) = Ok (answered (λ _. done) batch_tells (decode_in k code))
performed k (map bs) = Ok (answered bytes batch_tells (map_in k bs))
performed k (base code) = Ok (answered bytes batch_tells (base_in k code))
performed k (input e nonce context pk) = Ok (answered bytes batch_tells (input_in k e nonce context pk))
performed k (direct key i) = Ok (answered bytes batch_tells (direct_in k key i))
performed k (book s n) = Err NoBook
performed k (call c) = Err NoBook
performed k (protocol a) = Err NoStation

-- what each command says: its words are read, and what they ask for is done
abbrev pub says : Kind → Table → Command → ℕ → List (List ℕ) → Outcome
says k table c at ws = then (asked table c at ws) (performed k)

-- what a statement does: the command, what it says, and the name that keeps it
pub record Step : Type 0 where
  pub name : Option (List ℕ)
  pub command : Command
  pub outcome : Result Said Refusal

abbrev pub step : Parts → Outcome → Result (Option Step) LineFault
step p (Err f) = Err f
step p (Ok o) = Ok (Some (record { name = p.name; command = p.command; outcome = o }))

abbrev pub carried : Kind → Table → Result (Option Parts) LineFault → Result (Option Step) LineFault
carried k table (Err f) = Err f
carried k table (Ok None) = Ok None
carried k table (Ok (Some p)) = step p (says k table p.command (command_at p.name + 1) p.arguments)

-- what the words of a line do
abbrev pub meaning : Kind → Table → List (List ℕ) → Result (Option Step) LineFault
meaning k table ws = carried k table (statement ws)

-- what is kept after a step: bytes that were answered under a name, and all the rest as before
abbrev pub kept : Option (List ℕ) → Result Said Refusal → Table → Table
kept None o table other = table other
kept (Some n) (Err f) table other = table other
kept (Some n) (Ok done) table other = table other
kept (Some n) (Ok (number k)) table other = table other
kept (Some n) (Ok (pair i k)) table other = table other
kept (Some n) (Ok (flag b)) table other = table other
kept (Some n) (Ok (chose k)) table other = table other
kept (Some n) (Ok (bytes bs)) table other = cond (bytes_eq n other) (Some bs) (table other)

-- the group after a step: the one that it chose, or that of before
abbrev pub chosen : Result Said Refusal → Kind → Kind
chosen (Err f) k = k
chosen (Ok done) k = k
chosen (Ok (number n)) k = k
chosen (Ok (pair i n)) k = k
chosen (Ok (flag b)) k = k
chosen (Ok (bytes bs)) k = k
chosen (Ok (chose g)) k = g

-- an outcome is answered, or memory is wanting
abbrev pub Answers : Outcome → Result (Result Answer Refusal) LineFault → Type 0
Answers o (Ok a) = o ≡ Ok (outcome_of a)
Answers o (Err f) = (f ≡ Memory) ⊎ (o ≡ Err f)

-- what was said is kept, or memory is wanting
abbrev pub Stores : Option (List ℕ) → Result Said Refusal → Table → Table → Result (Unit {0}) LineFault → Type 0
Stores name o before after (Ok u) = (n : List ℕ) → after n ≡ kept name o before n
Stores name o before after (Err f) = (f ≡ Memory) × ((n : List ℕ) → after n ≡ before n)

-- what a line's command said, by what the line says: it is kept under the line's name, where it has one
abbrev pub Settled : Result (Option Parts) LineFault → Result Said Refusal → Table → Table → Result (Unit {0}) LineFault → Type 0
Settled (Err f) o before after r = (r ≡ Err f) × ((n : List ℕ) → after n ≡ before n)
Settled (Ok None) o before after r = (r ≡ Ok tt) × ((n : List ℕ) → after n ≡ before n)
Settled (Ok (Some p)) o before after r = Stores p.name o before after r

-- the report of a step
abbrev pub Tells : Step → Report → Type 0
Tells s r = (r.command ≡ s.command) × (outcome_of r.outcome ≡ s.outcome)

-- a line that calls a command, and so may want memory
abbrev pub Calls : List (List ℕ) → Type 0
Calls ws = (p : Parts) × (statement ws ≡ Ok (Some p))

-- A line is carried out as its words mean: it is reported and what it keeps is kept, or it is refused and
-- nothing changes. Where a command finds no memory nothing changes either.
abbrev pub Carries : List (List ℕ) → Table → Table → Kind → Kind → Result (Option Report) LineFault → Type 0
Carries ws before after k l (Ok None) = (meaning k before ws ≡ Ok None) × ((n : List ℕ) → after n ≡ before n) × (l ≡ k)
Carries ws before after k l (Ok (Some r)) =
    (s : Step) × (meaning k before ws ≡ Ok (Some s)) × Tells s r × ((n : List ℕ) → after n ≡ kept s.name s.outcome before n) × (l ≡ chosen s.outcome k)
Carries ws before after k l (Err f) = (((f ≡ Memory) × Calls ws) ⊎ (meaning k before ws ≡ Err f)) × ((n : List ℕ) → after n ≡ before n) × (l ≡ k)

-- what the words of a line ask, with their command
abbrev pub ordered : Table → Result (Option Parts) LineFault → Result (Option (Command × Asked)) LineFault
ordered table (Err f) = Err f
ordered table (Ok None) = Ok None
ordered table (Ok (Some p)) = then (asked table p.command (command_at p.name + 1) p.arguments) (λ a. Ok (Some (p.command, a)))

-- an order is what the words of its line ask, or memory is wanting
abbrev pub Orders : List (List ℕ) → Table → Result (Option Order) LineFault → Type 0
Orders ws table (Ok None) = ordered table (statement ws) ≡ Ok None
Orders ws table (Ok (Some o)) = ordered table (statement ws) ≡ Ok (Some (o.command, asked_of o.task))
Orders ws table (Err f) = (f ≡ Memory) ⊎ (ordered table (statement ws) ≡ Err f)
