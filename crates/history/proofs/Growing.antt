-- The history after one call more, and the whole law of a history that is kept.
use Rattle.std.proofs.Common.{◌≡◌, ℕ, zero, suc, ◌+◌, ◌<◌, ◌≤◌, min, List, [], ◌∷◌, ◌++◌, reverse, length, get_or, take, drop, set, sym, refl, ap, ◌∙◌, arith, length-take-le, take_all, drop-set-lt}
use native.Mathlib.Nat.{suc-min-suc}
use Rattle.std.proofs.lemmas.List.{take_more, take_more_set, reverse-append, drop-drop}
use Rattle.group.specs.Model.{Model}
use Rattle.history.specs.declared.calls.Call.{Call}
use Rattle.history.specs.Events.{Outcome}
use Rattle.history.specs.Events.{Event, event, events, told}
use Rattle.history.specs.Kept.{SoFar}
use Rattle.history.specs.Law.{Lawful}
use Rattle.history.proofs.Deeds.{all_right}
use Rattle.history.proofs.Linking.{unlinkable, redeems_once, counts}
use Rattle.history.proofs.Finishing.{finishes}

pub lawful : {E S K : Type 0} (m : Model E S K) (places : ℕ) (h : List Event) → SoFar m places h → Lawful m places h
lawful m places h l = record {
  unlinkable = unlinkable m places h l;
  redeems_once = redeems_once m places h l;
  counts = counts m places h l;
  finishes = finishes m places h l;
  all_right = all_right m places h l;
}

events_push : (cs : List Call) (os : List Outcome) (c : Call) (o : Outcome) → length cs ≡ length os → events (cs ++ c ∷ []) (os ++ o ∷ []) ≡ events cs os ++ event c (told o) ∷ []
events_push [] [] c o e = refl
events_push [] (y ∷ os) c o e = absurd (omega arith)
events_push (x ∷ cs) [] c o e = absurd (omega arith)
events_push (x ∷ cs) (y ∷ os) c o e = ap (λ l. event x (told y) ∷ l) (events_push cs os c o (omega arith))

pub grown : (cs : List Call) (os : List Outcome) (i : ℕ) (d : Call) (o : Outcome) → i < length cs → i < length os →
    reverse (events (take (i + 1) cs) (take (i + 1) (set os i o))) ≡ event (get_or cs i d) (told o) ∷ reverse (events (take i cs) (take i os))
grown cs os i d o p q =
    let a = take_more cs i d p in
    let b = take_more_set os i o q in
    let e : length (take i cs) ≡ length (take i os) = length-take-le i cs (omega arith) ∙ sym (length-take-le i os (omega arith)) in
    ap reverse ((λ j. events (a j) (b j)) ∙ events_push (take i cs) (take i os) (get_or cs i d) o e) ∙ reverse-append (events (take i cs) (take i os)) (event (get_or cs i d) (told o) ∷ [])

events_none : (cs : List Call) → events cs [] ≡ []
events_none [] = refl
events_none (c ∷ cs) = refl

-- the first events are all of them once no call or no outcome is left
pub events_whole : (cs : List Call) (os : List Outcome) (i : ℕ) → min (length cs) (length os) ≤ i → events (take i cs) (take i os) ≡ events cs os
events_whole [] os i p = ap (λ l. events l (take i os)) (take_all i [] (omega arith))
events_whole (c ∷ cs) [] i p = ap (events (take i (c ∷ cs))) (take_all i [] (omega arith)) ∙ events_none (take i (c ∷ cs))
events_whole (c ∷ cs) (o ∷ os) zero p = let e = suc-min-suc (length cs) (length os) in absurd (omega arith)
events_whole (c ∷ cs) (o ∷ os) (suc i) p = ap (λ l. event c (told o) ∷ l) (events_whole cs os i (let e = suc-min-suc (length cs) (length os) in omega arith))

pub rest_stays : (old os : List Outcome) (i : ℕ) (o : Outcome) → drop i os ≡ drop i old → drop (i + 1) (set os i o) ≡ drop (i + 1) old
rest_stays old os i o e = drop-set-lt (i + 1) os i o (omega arith) ∙ sym (drop-drop 1 i os) ∙ ap (drop 1) e ∙ drop-drop 1 i old
