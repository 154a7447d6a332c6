-- What a line on a station says, from what the history's calls told. Assumes nothing.
use Rattle.std.proofs.Common.{◌≡◌, ℕ, ◌+◌, true, List, [], ◌∷◌, ◌++◌, map, reverse, length, is_some, Some, None, Ok, Err, Option, Result, sym, refl, ap, ◌∙◌, subst, inl, inr, arith, MatchOption}
use Rattle.std.proofs.lemmas.Bool.{both_ways}
use Rattle.std.specs.Option.{option_to_list}
use Rattle.std.specs.declared.alloc.AllocError.{AllocError}
use Rattle.book.specs.Making.{Worked}
use Rattle.commands.specs.declared.Kind.{Kind}
use Rattle.faults.specs.declared.Refusal.{Refusal}
use Rattle.faults.specs.declared.WireFault.{WireFault}
use Rattle.history.specs.Events.{Outcome, events, told}
use Rattle.history.specs.declared.calls.Call.{Call}
use Rattle.script.specs.declared.answers.Answer.{Answer}
use Rattle.script.specs.declared.errors.LineFault.{LineFault}
use Rattle.script.specs.declared.reading.Shelf.{Shelf}
use Rattle.counter.specs.Ledgers.{Lent, seen, places_in, LawfulIn, Replayed, Says, Serves}

-- the last of the outcomes, where there is one
pub replayed : (k : Kind) (calls : List Call) (places : ℕ) (all before : List Outcome) (o : Option Outcome) →
    LawfulIn k places (reverse (events calls all)) → length all ≡ length calls → all ≡ before ++ option_to_list o → (o ≡ None → length all ≡ 0) → Replayed k calls places (Ok o)
replayed k calls places all before None law long split none = sym long ∙ none refl
replayed k calls places all before (Some o) law long split none =
    (before, subst (λ (os : List Outcome). LawfulIn k places (reverse (events calls os))) split law, ap length (sym split) ∙ long)

-- nothing was taken where nothing was there
pub popped_none : (o : Option Outcome) (n k : ℕ) → MatchOption o ((n ≡ 0) × (k ≡ 0)) (λ _. k + 1 ≡ n) → o ≡ None → n ≡ 0
popped_none None n k h e = h.0
popped_none (Some x) n k h e = absurd (both_ways true (ap is_some e) refl)

maps_long : (calls : List Call) → length (map seen calls) ≡ length calls
maps_long [] = refl
maps_long (c ∷ calls) = let ih = maps_long calls in omega arith

no_calls : (calls : List Call) → length calls ≡ 0 → map seen calls ≡ []
no_calls [] e = refl
no_calls (c ∷ calls) e = absurd (omega arith)

-- the last outcome is said
pub last_served : (k : Kind) (room : Result ℕ WireFault) (made : List Lent) (calls : List Call) (o : Outcome) (a : Result (Result Answer Refusal) LineFault) →
    map seen calls ≡ made → Worked (λ b x. Replayed k calls b.capacity x) room (Ok (Ok (Some o))) → Says (told o) a → Serves k room made a
last_served k (Ok places) made calls o (Ok a) same (b, fresh, (before, law, long)) says =
    (calls, before, o, same, subst (λ (n : ℕ). LawfulIn k n (reverse (events calls (before ++ o ∷ [])))) fresh.1 law, long ∙ sym (maps_long calls) ∙ ap length same, says)
last_served k (Ok places) made calls o (Err f) same worked says = inl says
last_served k (Err g) made calls o a same worked says = absurd worked

-- no call was made
pub none_served : (k : Kind) (room : Result ℕ WireFault) (made : List Lent) (calls : List Call) (f : LineFault) →
    map seen calls ≡ made → Worked (λ b x. Replayed k calls b.capacity x) room (Ok (Ok None)) → Serves k room made (Err f)
none_served k (Ok places) made calls f same (b, fresh, none) = inr (sym same ∙ no_calls calls none)
none_served k (Err g) made calls f same worked = absurd worked

-- a line on a station over a book of a length
module _ (k : Kind) (s : Shelf) (len n : ℕ) (made : List Lent) (calls : List Call) (t : Result (Option Outcome) AllocError) (long : n ≡ len)
    (same : map seen calls ≡ made) (worked : Worked (λ b x. Replayed k calls b.capacity x) (places_in s n) (Ok t)) where
  over_length : (u : Result (Option Outcome) AllocError) → t ≡ u → Worked (λ b x. Replayed k calls b.capacity x) (places_in s len) (Ok u)
  over_length u is =
      subst (λ (x : Result (Option Outcome) AllocError). Worked (λ b x. Replayed k calls b.capacity x) (places_in s len) (Ok x)) is
      (subst (λ (m : ℕ). Worked (λ b x. Replayed k calls b.capacity x) (places_in s m) (Ok t)) long worked)

  pub line_served : (o : Outcome) (a : Result (Result Answer Refusal) LineFault) → t ≡ Ok (Some o) → Says (told o) a → Serves k (places_in s len) made a
  line_served o a is says = last_served k (places_in s len) made calls o a same (over_length (Ok (Some o)) is) says

  pub line_unserved : (f : LineFault) → t ≡ Ok None → Serves k (places_in s len) made (Err f)
  line_unserved f is = none_served k (places_in s len) made calls f same (over_length (Ok None) is)
