-- What a sound table means as a book.
use Rattle.std.specs.Prelude.{◌≡◌, ℕ, ◌^◌, ◌<◌, ◌≤◌, List, [], ◌∷◌, length}
use Rattle.std.proofs.Common.{arith}
use Rattle.std.specs.List.{AllByRecursion}
use Rattle.std.proofs.lemmas.List.{length-map}
use Rattle.std.proofs.ByRecursion.{All-map}
use Rattle.book.specs.Meaning.{Shaped, Meaning}
use Rattle.chains.specs.Tables.{Table, at, pair_of}
use Rattle.chains.specs.Chains.{used, pairs, Sound}

all_any : (P : ℕ → Type 0) → ((k : ℕ) → P k) → (ks : List ℕ) → AllByRecursion P ks
all_any P h [] = tt
all_any P h (k ∷ ks) = (h k, all_any P h ks)

pub length_pairs : (t : Table) → length (pairs t) ≡ length (used t)
unfolding pairs
length_pairs t = length-map (used t) (λ k. pair_of (at t k))

pub shaped_pairs : (t : Table) → Sound t → AllByRecursion Shaped (pairs t)
unfolding pairs
shaped_pairs t s = All-map Shaped (λ k. pair_of (at t k)) (used t) (all_any (λ k. length (at t k).nonce ≡ 32) s.0.1 (used t))

-- the pairs in its chains, and as many places as there are records
abbrev pub meant : (t : Table) → Sound t → 1 ≤ length t.entries → length t.entries < 2 ^ 16 → Meaning
meant t s some small = record {
  pairs = pairs t;
  capacity = length t.entries;
  apart = s.7;
  within = omega (arith, length_pairs t, s.6.1);
  some = some;
  small = small;
  shaped = shaped_pairs t s;
}
