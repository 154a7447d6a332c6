-- What a station's ring and book are to the history that led to them.
use Rattle.std.specs.Prelude.{◌≡◌, ℕ, ◌+◌, ◌≤◌, cond, List, [], ◌∷◌, length, Some, None, filter, Option, ◌==◌}
use Rattle.std.specs.List.{ContainsAt as Has, AllByRecursion}
use Rattle.group.specs.Model.{Model}
use Rattle.ring.specs.Places.{Place, key_in, open_count}
use Rattle.book.specs.Meaning.{Pair, Apart, Meaning, In, Exactly}
use Rattle.history.specs.Events.{Event}
use Rattle.history.specs.History.{present, highest, open_number, spent, open_key}
use Rattle.history.specs.Law.{Right}

-- how often an epoch stands at the places of a ring
abbrev pub stands : {K : Type 0} → ℕ → Place K → ℕ
stands e None = 0
stands e (Some x) = cond (x.number == e) 1 0

abbrev pub times : {K : Type 0} → ℕ → List (Place K) → ℕ
times e [] = 0
times e (p ∷ ps) = stands e p + times e ps

-- the pairs whose epoch has a key
abbrev pub in_use : {K : Type 0} → (ℕ → Option K) → List Pair → List Pair
in_use key done = filter (λ p. present (key p.0)) done

-- a ring and a book of so many places hold what a history says: which epochs have which keys, how many are open, the
-- highest epoch, and the pairs of the accepted tokens
pub record Tied {K : Type 0} (capacity : ℕ) (key : ℕ → Option K) (number high : ℕ) (done : List Pair) (ps : List (Place K)) (latest : ℕ) (b : Meaning) : Type 0 where
  pub keys : (e : ℕ) → key_in ps e ≡ key e
  pub single : (e : ℕ) → times e ps ≤ 1
  pub number_is : open_count ps ≡ number
  pub four : length ps ≡ 4
  pub high_is : latest ≡ high
  pub these : (q : Pair) → Exactly (In b q) (Has (in_use key done) q)
  pub apart : Apart done
  pub room : b.capacity ≡ capacity
  pub below : AllByRecursion (λ p. p.0 ≤ high) done
  pub bound : (e : ℕ) (k : K) → key e ≡ Some k → e ≤ high

module _ {E S K : Type 0} (m : Model E S K) (capacity : ℕ) where
  -- every event so far told what it must after those before it
  abbrev pub SoFar : List Event → Type 0
  SoFar [] = Unit {0}
  SoFar (ev ∷ before) = Right m capacity before ev.call ev.answer × SoFar before

  pub record Kept (h : List Event) (ps : List (Place K)) (latest : ℕ) (b : Meaning) : Type 0 where
    pub tied : Tied capacity (open_key m h) (open_number h) (highest h) (spent h) ps latest b
    pub law : SoFar h
