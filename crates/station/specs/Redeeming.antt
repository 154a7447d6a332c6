-- What `redeem` and `close` do. `key` tells the key of an epoch that is open.
use Rattle.std.specs.Prelude.{◌≡◌, ℕ, Bool, true, false, not, ◌&&◌, List, [], ◌∷◌, take, Some, None, Ok, Err, Option, Result, ◌==◌, nat_lt}
use Rattle.std.specs.Option.{ok_or}
use Rattle.faults.specs.declared.WireFault.TheVariants.{ShortScratch, WrongType}
use Rattle.faults.specs.declared.RingFault.TheVariants.{NotOpen}
use Rattle.faults.specs.declared.GroupFault.TheVariants.{NullInput}
use Rattle.faults.specs.declared.TokenFault.TheVariants.{OtherKey, OtherAuthenticator}
use Rattle.faults.specs.declared.StationFault.{StationFault}
use Rattle.faults.specs.declared.StationFault.TheVariants.{Wire, Ring, Group, Batch, Token, Book}
use Rattle.group.specs.Model.{Model}
use Rattle.hashing.specs.Hashing.{hash_to_group, key_id}
use Rattle.voprf.specs.Blinding.{public_key, direct}
use Rattle.messages.specs.Answers.{ruled}
use Rattle.messages.specs.Messages.{read_token}
use Rattle.token.specs.Tokens.{then, is_null}
use Rattle.book.specs.Meaning.{Pair, Meaning, Marked, Dropped}
use Rattle.ring.specs.Places.{Place, closed}
use Rattle.station.specs.Answers.{of_wire, of_ring}

-- whether two byte strings are the same
abbrev pub same : List ℕ → List ℕ → Bool
same [] [] = true
same [] (y ∷ ys) = false
same (x ∷ xs) [] = false
same (x ∷ xs) (y ∷ ys) = x == y && same xs ys

module _ {E S K : Type 0} (m : Model E S K) where
  -- what a token says of itself, by the key of its epoch: key id, mapped input, authenticator
  unfoldable pub authentic : K → List ℕ → List ℕ → List ℕ → Result (Unit {0}) StationFault
  authentic k id authenticator input =
      ruled
      ((not (same id (key_id m (public_key m k))), Token OtherKey)
      ∷ (is_null m (hash_to_group m input), Group NullInput)
      ∷ (not (same authenticator (direct m k input)), Token OtherAuthenticator)
      ∷ [])
      (Ok tt)

  -- the pair that a redeem would mark, or the first fault before the book is asked
  unfoldable pub redeemable : ℕ → (ℕ → Option K) → List ℕ → Result Pair StationFault
  redeemable scratch key bytes =
      ruled ((nat_lt scratch 1024, Wire ShortScratch) ∷ [])
      (then (of_wire (read_token bytes)) (λ t.
      ruled ((not (t.kind == m.kind), Wire WrongType) ∷ [])
      (then (of_ring (ok_or (key t.epoch) NotOpen)) (λ k.
      then (authentic k t.key_id t.authenticator (take 100 bytes)) (λ _.
      Ok (t.epoch, t.nonce))))))

-- a pair is marked, or the book's fault is told, kept whole
abbrev pub Spends : Meaning → Pair → Result (Unit {0}) StationFault → Meaning → Type 0
Spends before p (Ok u) after = Marked before p (Ok u) after
Spends before p (Err (Book f)) after = Marked before p (Err f) after
Spends before p (Err (Wire f)) after = ⊥
Spends before p (Err (Ring f)) after = ⊥
Spends before p (Err (Group f)) after = ⊥
Spends before p (Err (Batch f)) after = ⊥
Spends before p (Err (Token f)) after = ⊥

-- what a redeem answers and does to the book: a token that is refused before the book is asked leaves it as it is
abbrev pub Redeems : Result Pair StationFault → Meaning → Result (Unit {0}) StationFault → Meaning → Type 0
Redeems (Ok p) before r after = Spends before p r after
Redeems (Err f) before r after = (r ≡ Err f) × (after ≡ before)

-- a book that was not asked is the very book that it was, to its last byte
abbrev pub Unasked : {T B : Type 0} → Result T StationFault → B → B → Type 0
Unasked (Ok x) before after = Unit {0}
Unasked (Err f) before after = after ≡ before

abbrev pub Undropped : {K B : Type 0} → Option K → B → B → Type 0
Undropped (Some k) before after = Unit {0}
Undropped None before after = after ≡ before

-- what a close answers and does to the book: the pairs of an open epoch are dropped and counted
abbrev pub Closes : {K : Type 0} → Option K → ℕ → Meaning → Result ℕ StationFault → Meaning → Type 0
Closes (Some k) epoch before (Ok n) after = Dropped before epoch n after
Closes (Some k) epoch before (Err f) after = ⊥
Closes None epoch before r after = (r ≡ Err (Ring NotOpen)) × (after ≡ before)

-- the places after a close: an epoch that was not open leaves them as they are
abbrev pub closed_places : {K : Type 0} → Option K → ℕ → List (Place K) → List (Place K)
closed_places (Some k) epoch ps = closed epoch ps
closed_places None epoch ps = ps
