-- What a history tells, the latest event first: which epochs are open under which keys, and which tokens were
-- accepted.
use Rattle.std.specs.Prelude.{◌≡◌, ℕ, ◌+◌, ◌-◌, max, Bool, true, false, cond, ◌⊎◌, List, [], ◌∷◌, take, drop, Some, None, Ok, Err, filter, Option, Result, ◌==◌, nat_le}
use Rattle.faults.specs.declared.GroupFault.{GroupFault}
use Rattle.faults.specs.declared.RingFault.{RingFault}
use Rattle.faults.specs.declared.RingFault.TheVariants.{NotAbove, AllOpen}
use Rattle.group.specs.Model.{Model}
use Rattle.messages.specs.Messages.{epoch_in}
use Rattle.token.specs.Tokens.{key_of}
use Rattle.book.specs.Meaning.{Pair}
use Rattle.history.specs.Events.{Event, Deed, opens, closes, issues, accepts, nothing, did}

-- the pair of a token: its epoch and its nonce
abbrev pub pair_of : List ℕ → Pair
pair_of token = (epoch_in token, take 32 (drop 4 token))

-- the highest epoch that was ever opened, 0 where none was
abbrev pub highest_after : Deed → ℕ → ℕ
highest_after (opens e code) n = max e n
highest_after (closes e) n = n
highest_after (issues q p) n = n
highest_after (accepts t) n = n
highest_after nothing n = n

abbrev pub highest : List Event → ℕ
highest [] = 0
highest (ev ∷ before) = highest_after (did ev) (highest before)

-- how many epochs are open: each opening is one more, each closing one fewer
abbrev pub number_after : Deed → ℕ → ℕ
number_after (opens e code) n = n + 1
number_after (closes e) n = n - 1
number_after (issues q p) n = n
number_after (accepts t) n = n
number_after nothing n = n

abbrev pub open_number : List Event → ℕ
open_number [] = 0
open_number (ev ∷ before) = number_after (did ev) (open_number before)

-- whether an epoch may be opened: it is above all that were opened before, and fewer than four are open
abbrev pub admission : List Event → ℕ → Result (Unit {0}) RingFault
admission before e = cond (nat_le e (highest before)) (Err NotAbove) (cond (nat_le 4 (open_number before)) (Err AllOpen) (Ok tt))

-- the pairs of the accepted tokens, the latest first
abbrev pub pairs_after : Deed → List Pair → List Pair
pairs_after (opens e code) ps = ps
pairs_after (closes e) ps = ps
pairs_after (issues q p) ps = ps
pairs_after (accepts t) ps = pair_of t ∷ ps
pairs_after nothing ps = ps

abbrev pub spent : List Event → List Pair
spent [] = []
spent (ev ∷ before) = pairs_after (did ev) (spent before)

-- the token was accepted
abbrev pub Accepted : List Event → List ℕ → Type 0
Accepted [] t = ⊥
Accepted (ev ∷ before) t = (did ev ≡ accepts t) ⊎ Accepted before t

-- the request was answered by the reply
abbrev pub Issued : List Event → List ℕ → List ℕ → Type 0
Issued [] q p = ⊥
Issued (ev ∷ before) q p = (did ev ≡ issues q p) ⊎ Issued before q p

abbrev pub present : {K : Type 0} → Option K → Bool
present (Some k) = true
present None = false

module _ {E S K : Type 0} (m : Model E S K) where
  abbrev pub key_told : Result K GroupFault → Option K
  key_told (Ok k) = Some k
  key_told (Err f) = None

  abbrev pub key_after : Deed → ℕ → Option K → Option K
  key_after (opens x code) e before = cond (x == e) (key_told (key_of m code)) before
  key_after (closes x) e before = cond (x == e) None before
  key_after (issues q p) e before = before
  key_after (accepts t) e before = before
  key_after nothing e before = before

  -- the key under which an epoch is open: from its accepted open on, until its accepted close
  abbrev pub open_key : List Event → ℕ → Option K
  open_key [] e = None
  open_key (ev ∷ before) e = key_after (did ev) e (open_key before e)

  -- the pairs of the accepted tokens whose epoch is open
  abbrev pub counted : List Event → List Pair
  counted h = filter (λ p. present (open_key h p.0)) (spent h)
