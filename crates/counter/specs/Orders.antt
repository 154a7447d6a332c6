-- What a line of the client comes to: what is said, and the batch that is pending after it.
use Rattle.std.specs.Prelude.{◌≡◌, ℕ, ◌/◌, ◌⊎◌, List, length, Some, None, Ok, Err, Option, Result}
use Rattle.circ523.specs.Kind.{points}
use Rattle.client.specs.Blinding.{blind_answer}
use Rattle.client.specs.Finishing.{finish_answer}
use Rattle.client.specs.declared.pending.Pending.{Pending}
use Rattle.commands.specs.declared.Kind.{Kind}
use Rattle.commands.specs.declared.Kind.TheVariants.{Res2039, Circ523}
use Rattle.faults.specs.Numbers.{batch_tells}
use Rattle.faults.specs.declared.BatchFault.{BatchFault}
use Rattle.faults.specs.declared.Refusal.{Refusal}
use Rattle.res2039.specs.Kind.{residues}
use Rattle.script.specs.Reports.{bytes, pair, outcome_of}
use Rattle.script.specs.Sessions.{Outcome}
use Rattle.script.specs.declared.answers.Answer.{Answer}
use Rattle.script.specs.declared.errors.LineFault.{LineFault}
use Rattle.script.specs.declared.errors.LineFault.TheVariants.{NoBatch, PendingBatch, Memory}

-- the epoch of the pending batch and how many items it has, where one is pending
abbrev pub Waiting : Type 0
Waiting = Option (ℕ × ℕ)

abbrev pub waiting : Option Pending → Waiting
waiting None = None
waiting (Some p) = Some (p.epoch, p.count)

-- what a line comes to
abbrev pub Turn : Type 0
Turn = Outcome × Waiting

-- the request, in the chosen group, or the first fault in the order of the checks
unfoldable pub blind_in : Kind → ℕ → ℕ → List ℕ → List ℕ → List ℕ → ℕ → Result (List ℕ) BatchFault
blind_in Res2039 scratch epoch pk seeds blinds outlet = blind_answer residues scratch epoch pk seeds blinds outlet
blind_in Circ523 scratch epoch pk seeds blinds outlet = blind_answer points scratch epoch pk seeds blinds outlet

-- a batch that was begun has its request, as many bytes as are told, and keeps its epoch and n
abbrev pub Begins : Result (List ℕ) BatchFault → ℕ → ℕ → Result (Pending × ℕ) BatchFault → Type 0
Begins (Ok request) epoch n (Ok b) = (b.0.epoch ≡ epoch) × (b.0.count ≡ n) × (b.1 ≡ length request)
Begins (Ok request) epoch n (Err f) = ⊥
Begins (Err g) epoch n (Ok b) = ⊥
Begins (Err g) epoch n (Err f) = f ≡ g

-- a batch is pending once its request is answered, and none after a refusal
abbrev pub begun_turn : ℕ → ℕ → Result (List ℕ) BatchFault → Turn
begun_turn epoch n (Ok request) = (Ok (Ok (bytes request)), Some (epoch, n))
begun_turn epoch n (Err f) = (Ok (Err (batch_tells f)), None)

-- one batch is pending at a time
abbrev pub blind_turn : Kind → ℕ → ℕ → Waiting → ℕ → List ℕ → List ℕ → List ℕ → Turn
blind_turn k scratch outlet (Some b) epoch pk seeds blinds = (Err PendingBatch, Some b)
blind_turn k scratch outlet None epoch pk seeds blinds = begun_turn epoch (length seeds / 64) (blind_in k scratch epoch pk seeds blinds outlet)

-- the tokens of the pending batch, in the chosen group, or the first fault in the order of the checks
unfoldable pub finish_in : Kind → ℕ → ℕ → ℕ → List ℕ → List ℕ → List ℕ → List ℕ → ℕ → Result (List ℕ) BatchFault
finish_in Res2039 scratch epoch n pk seeds blinds reply outlet = finish_answer residues scratch epoch n pk seeds blinds reply outlet
finish_in Circ523 scratch epoch n pk seeds blinds reply outlet = finish_answer points scratch epoch n pk seeds blinds reply outlet

-- a batch is ended once its tokens are answered, and is still pending after a refusal
abbrev pub ended_turn : ℕ × ℕ → Result (List ℕ) BatchFault → Turn
ended_turn b (Ok tokens) = (Ok (Ok (bytes tokens)), None)
ended_turn b (Err f) = (Ok (Err (batch_tells f)), Some b)

-- it is the pending batch that is finished
abbrev pub finish_turn : Kind → ℕ → ℕ → Waiting → List ℕ → List ℕ → List ℕ → List ℕ → Turn
finish_turn k scratch outlet None pk seeds blinds reply = (Err NoBatch, None)
finish_turn k scratch outlet (Some b) pk seeds blinds reply = ended_turn b (finish_in k scratch b.0 b.1 pk seeds blinds reply outlet)

-- giving the batch up answers its epoch and n
abbrev pub abandon_turn : Waiting → Turn
abandon_turn None = (Err NoBatch, None)
abandon_turn (Some b) = (Ok (Ok (pair b.0 b.1)), None)

-- a line comes to its turn; or memory is wanting, and what was pending still is
abbrev pub Takes : Turn → Waiting → Waiting → Result (Result Answer Refusal) LineFault → Type 0
Takes t before after (Ok a) = t ≡ (Ok (outcome_of a), after)
Takes t before after (Err f) = ((f ≡ Memory) × (after ≡ before)) ⊎ (t ≡ (Err f, after))
