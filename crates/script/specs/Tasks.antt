-- What a line asks for, from the words after its command.
use Rattle.std.specs.Prelude.{◌≡◌, ℕ, ◌+◌, ◌⊎◌, List, Ok, Err, vec_items, Result}
use Rattle.commands.specs.declared.Kind.{Kind}
use Rattle.script.specs.Arguments.{Table}
use Rattle.script.specs.Protocol.{Acted, acted, acted_of}
use Rattle.script.specs.Reading.{then, at_end, rest_of, first_number, shelf_and_length, kind_at, one_of, two_of, three_of}
use Rattle.script.specs.declared.command.Command.{Command}
use Rattle.script.specs.declared.command.Command.TheVariants.{Digest, Group, Decode, Map, Base, Input, Direct, Book, Mark, Has, Drop, Size, Clear, Image, Protocol}
use Rattle.script.specs.declared.errors.LineFault.{LineFault}
use Rattle.script.specs.declared.errors.LineFault.TheVariants.{Memory}
use Rattle.script.specs.declared.reading.Shelf.{Shelf}
use Rattle.script.specs.declared.tasks.Call as tasks
use Rattle.script.specs.declared.tasks.Call.TheVariants as the_call
use Rattle.script.specs.declared.tasks.Task.{Task}
use Rattle.script.specs.declared.tasks.Task.TheVariants as task

-- what is asked of a book
pub data Called : Type 0 where
  mark : ℕ → List ℕ → Called
  has : ℕ → List ℕ → Called
  drop : ℕ → Called
  size : Called
  clear : Called
  image : Called

-- what a line asks for
pub data Asked : Type 0 where
  digest : List ℕ → Asked
  group : Kind → Asked
  decode : List ℕ → Asked
  map : List ℕ → Asked
  base : List ℕ → Asked
  input : ℕ → List ℕ → List ℕ → List ℕ → Asked
  direct : List ℕ → List ℕ → Asked
  book : Shelf → ℕ → Asked
  call : Called → Asked
  protocol : Acted → Asked

-- what each command asks for
abbrev pub asked : Table → Command → ℕ → List (List ℕ) → Result Asked LineFault
asked table Digest at ws = then (one_of table at ws) (λ bs. Ok (digest bs))
asked table Group at ws = then (kind_at at ws) (λ k. Ok (group k))
asked table Decode at ws = then (one_of table at ws) (λ bs. Ok (decode bs))
asked table Map at ws = then (one_of table at ws) (λ bs. Ok (map bs))
asked table Base at ws = then (one_of table at ws) (λ bs. Ok (base bs))
asked table Input at ws =
    then (first_number 65535 at ws) (λ e. then (three_of table (at + 1) (rest_of ws)) (λ b. Ok (input e b.0 b.1 b.2)))
asked table Direct at ws = then (two_of table at ws) (λ b. Ok (direct b.0 b.1))
asked table Book at ws = then (shelf_and_length at ws) (λ b. Ok (book b.0 b.1))
asked table Mark at ws = then (first_number 65535 at ws) (λ e. then (one_of table (at + 1) (rest_of ws)) (λ n. Ok (call (mark e n))))
asked table Has at ws = then (first_number 65535 at ws) (λ e. then (one_of table (at + 1) (rest_of ws)) (λ n. Ok (call (has e n))))
asked table Drop at ws = then (first_number 65535 at ws) (λ e. then (at_end (at + 1) (rest_of ws)) (λ _. Ok (call (drop e))))
asked table Size at ws = then (at_end at ws) (λ _. Ok (call size))
asked table Clear at ws = then (at_end at ws) (λ _. Ok (call clear))
asked table Image at ws = then (at_end at ws) (λ _. Ok (call image))
asked table (Protocol w) at ws = then (acted table w at ws) (λ a. Ok (protocol a))

-- the same of a call on a book
abbrev pub called_of : tasks.Call → Called
called_of (the_call.Mark e n) = mark e (vec_items n)
called_of (the_call.Has e n) = has e (vec_items n)
called_of (the_call.Drop e) = drop e
called_of the_call.Size = size
called_of the_call.Clear = clear
called_of the_call.Image = image

-- the same of a task
abbrev pub asked_of : Task → Asked
asked_of (task.Digest i) = digest (vec_items i)
asked_of (task.Group kind) = group kind
asked_of (task.Decode code) = decode (vec_items code)
asked_of (task.Map bytes) = map (vec_items bytes)
asked_of (task.Base scalar) = base (vec_items scalar)
asked_of (task.Input e nonce context pk) = input e (vec_items nonce) (vec_items context) (vec_items pk)
asked_of (task.Direct key i) = direct (vec_items key) (vec_items i)
asked_of (task.Book s n) = book s n
asked_of (task.Call c) = call (called_of c)
asked_of (task.Protocol a) = protocol (acted_of a)

abbrev pub Asks : Result Asked LineFault → Result Task LineFault → Type 0
Asks a (Ok t) = a ≡ Ok (asked_of t)
Asks a (Err f) = (f ≡ Memory) ⊎ (a ≡ Err f)
