-- That the capacity of memory fits it.
use Rattle.std.specs.Prelude.{◌≡◌, ℕ, ◌-◌, ◌/◌, ◌^◌, ◌<◌, ◌≤◌, List, length}
use Rattle.std.proofs.Common.{arith}
use Rattle.std.proofs.lemmas.Nat.{le-div, div-add-mod'}
use Rattle.std.proofs.lemmas.List.FromFn.{length-map-range_with_len}
use Rattle.chained.specs.Layout.{RoomIn, place, record_at, table_of}

pub room_fits : (len cap : ℕ) → RoomIn len cap → (1 ≤ cap) × (cap ≤ 1024) × (place cap ≤ len)
room_fits len cap (whole, is) =
    let some : 1 ≤ (len - 132) / 36 = le-div 1 (len - 132) 36 (omega arith) (omega arith) in
    let all = div-add-mod' (len - 132) 36 in
    (omega arith, omega arith, omega arith)

pub places_is : (cap : ℕ) (m : List ℕ) → length (table_of cap m).entries ≡ cap
unfolding table_of
places_is cap m = length-map-range_with_len (λ i. record_at m (place i)) 0 cap

pub some_places : (cap len : ℕ) (m : List ℕ) → RoomIn len cap → 1 ≤ length (table_of cap m).entries
some_places cap len m r = let f = room_fits len cap r in omega (arith, places_is cap m, f.0)

pub few_places : (cap len : ℕ) (m : List ℕ) → RoomIn len cap → length (table_of cap m).entries < 2 ^ 16
few_places cap len m r = let f = room_fits len cap r in omega (arith, places_is cap m, f.1)
