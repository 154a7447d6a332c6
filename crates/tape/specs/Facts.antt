-- That the pairs on a tape keep to the laws of a book.
use Rattle.std.specs.Prelude.{◌≡◌, ℕ, ◌+◌, ◌-◌, ◌/◌, ◌<◌, ◌≤◌, List, [], length, drop}
use Rattle.std.proofs.Common.{sym, subst, arith}
use Rattle.std.specs.List.{AllByRecursion}
use Rattle.std.proofs.lemmas.List.{length-take-le, length-drop}
use Rattle.std.proofs.lemmas.List.FromFn.{length-map-range_with_len, get_or-map-range_with_len}
use Rattle.std.proofs.ByRecursion.{All-from_get_or}
use Rattle.std.proofs.lemmas.Nat.{le-div, div-add-mod'}
use Rattle.book.specs.Meaning.{Shaped}
use Rattle.book.specs.Words.{word}
use Rattle.tape.specs.Layout.{RoomIn, Fitting, place, pair_at, pairs_of}

pub room_fits : (m : List ℕ) (cap : ℕ) → RoomIn (length m) cap → Fitting m cap
room_fits m cap (whole, is) =
    let some : 1 ≤ (length m - 2) / 34 = le-div 1 (length m - 2) 34 (omega arith) (omega arith) in
    let all = div-add-mod' (length m - 2) 34 in
    (omega arith, omega arith, omega arith)

pub size_is : (m : List ℕ) → length (pairs_of m) ≡ word m 0
size_is m = length-map-range_with_len (λ j. pair_at m (place j)) 0 (word m 0)

pub pairs_shaped : (m : List ℕ) (cap : ℕ) → Fitting m cap → word m 0 ≤ cap → AllByRecursion Shaped (pairs_of m)
pairs_shaped m cap fitting within = All-from_get_or Shaped (pairs_of m) (0, []) (λ i h.
    let b : i < word m 0 = omega (arith, size_is m) in
    let inside : place i + 34 ≤ length m = let c = fitting.2 in omega arith in
    let l : 32 ≤ length (drop (place i + 2) m) = omega (arith, length-drop (place i + 2) m) in
    let e = get_or-map-range_with_len (λ j. pair_at m (place j)) 0 (word m 0) i i (0, []) b (omega arith) in
    subst Shaped (sym e) (length-take-le 32 (drop (place i + 2) m) l))
