-- Lists of calls on a book, each with its answer.
use Rattle.std.specs.Prelude.{◌≡◌, ℕ, Bool, List, [], ◌∷◌, Decides, Result}
use Rattle.faults.specs.declared.BookFault.{BookFault}
use Rattle.book.specs.Meaning.{Pair, Meaning, In, size_of, Alike, Cleared, Marked, Dropped}

-- the calls of a book
pub data Call : Type 0 where
  clear : Call
  has : Pair → Call
  mark : Pair → Call
  drop : ℕ → Call
  size : Call
  capacity : Call

-- what a call answers with
abbrev pub Answer : Call → Type 0
Answer clear = Unit {0}
Answer (has p) = Bool
Answer (mark p) = Result (Unit {0}) BookFault
Answer (drop e) = ℕ
Answer size = ℕ
Answer capacity = ℕ

-- one call, with its answer, takes the one meaning to the other
abbrev pub Step : Meaning → (c : Call) → Answer c → Meaning → Type 0
Step before clear r after = Cleared before after
Step before (has p) r after = Decides r (In before p) × Alike before after
Step before (mark p) r after = Marked before p r after
Step before (drop e) r after = Dropped before e r after
Step before size r after = (r ≡ size_of before) × Alike before after
Step before capacity r after = (r ≡ before.capacity) × Alike before after

-- an answer for each call of a list
abbrev pub Answers : List Call → Type 0
Answers [] = Unit {0}
Answers (c ∷ cs) = Answer c × Answers cs

-- the calls, one after another, with their answers
abbrev pub Runs : Meaning → (cs : List Call) → Answers cs → Meaning → Type 0
Runs before [] rs after = Alike before after
Runs before (c ∷ cs) rs after = (m : Meaning) × Step before c rs.0 m × Runs m cs rs.1 after
