-- What follows from the meaning alone, for every kind of book.
use Rattle.std.specs.Prelude.{◌≡◌, ℕ, ◌+◌, ◌<◌, List, [], ◌∷◌, length, Ok, Err, filter, Result, ◌≢◌, nat_eq}
use Rattle.std.specs.List.{ContainsAt as Has}
use Rattle.faults.specs.declared.BookFault.{BookFault}
use Rattle.faults.specs.declared.BookFault.TheVariants.{Spent, Full}
use Rattle.book.specs.Meaning.{Pair, Apart, Meaning, In, size_of, Exactly, Alike, Marked, Dropped}
use Rattle.book.specs.Runs.{Call, mark, drop, Answers, Runs}

-- No list of calls tells two books of one set and one capacity apart: they answer each call alike,
-- and afterwards they still have one set and one capacity.
abbrev pub ToldAlike : Type 0
ToldAlike = (a b : Meaning) → Alike a b → (cs : List Call) (rs ss : Answers cs) (a' b' : Meaning) → Runs a cs rs a' → Runs b cs ss b' → (rs ≡ ss) × Alike a' b'

-- The size is the number of pairs: every list of them without repetition is as long.
abbrev pub SizeCounts : Type 0
SizeCounts = (b : Meaning) (ps : List Pair) → Apart ps → ((q : Pair) → Exactly (Has ps q) (In b q)) → size_of b ≡ length ps

-- The answer of a mark is the one that the set and the capacity give.
abbrev pub MarkAnswers : Type 0
MarkAnswers = (before after : Meaning) (p : Pair) (r : Result (Unit {0}) BookFault) → Marked before p r after
    → (In before p → r ≡ Err Spent)
    × ((In before p → ⊥) → size_of before ≡ before.capacity → r ≡ Err Full)
    × ((In before p → ⊥) → size_of before < before.capacity → r ≡ Ok tt)

-- An accepted mark raises the size by one; a refused one leaves it.
abbrev pub MarkCounts : Type 0
MarkCounts = (before after : Meaning) (p : Pair)
    → (Marked before p (Ok tt) after → size_of after ≡ size_of before + 1)
    × ((f : BookFault) → Marked before p (Err f) after → size_of after ≡ size_of before)

-- Drop answers how many pairs of the epoch were in the book.
abbrev pub DropCounts : Type 0
DropCounts = (before after : Meaning) (epoch r : ℕ) → Dropped before epoch r after → r ≡ length (filter (λ p. nat_eq p.0 epoch) before.pairs)

-- the calls of the worked case: mark (1, a); again; mark (1, b); drop 1; mark (2, b)
abbrev pub worked_calls : List ℕ → List ℕ → List Call
worked_calls a b = mark (1, a) ∷ mark (1, a) ∷ mark (1, b) ∷ drop 1 ∷ mark (2, b) ∷ []

-- The worked case: an empty book with one place accepts, says spent, says full, drops one pair, accepts.
abbrev pub OnePlaceHolds : Type 0
OnePlaceHolds = (start end : Meaning) (a b : List ℕ) → ((q : Pair) → In start q → ⊥) → start.capacity ≡ 1 → (a ≢ b)
    → (rs : Answers (worked_calls a b)) → Runs start (worked_calls a b) rs end → rs ≡ (Ok tt, (Err Spent, (Err Full, (1, (Ok tt, tt)))))
