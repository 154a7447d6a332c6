-- What holds of the scalars of every order, in the words of the subject.
use Rattle.std.specs.Prelude.{◌≡◌, ℕ, ◌<◌, List, length, Some}
use Rattle.scalar.specs.Scalars.{Scalars, added, subtracted, multiplied, scalar_code, scalar_of}

-- Scalars are a field, and each has one code, which alone is decoded to it.
pub record Reckons {S K : Type 0} (m : Scalars S K) : Type 0 where
  pub sums_grouped : (s t u : S) → added m (added m s t) u ≡ added m s (added m t u)
  pub sums_swapped : (s t : S) → added m s t ≡ added m t s
  pub sums_neutral : (s : S) → added m s (m.scalar 0) ≡ s
  pub undone : (s t : S) → added m (subtracted m s t) t ≡ s
  pub products_grouped : (s t u : S) → multiplied m (multiplied m s t) u ≡ multiplied m s (multiplied m t u)
  pub products_swapped : (s t : S) → multiplied m s t ≡ multiplied m t s
  pub products_neutral : (s : S) → multiplied m s (m.scalar 1) ≡ s
  pub inverted : (s : S) → 0 < m.number s → multiplied m s (m.inverse s) ≡ m.scalar 1
  pub spread : (s t u : S) → multiplied m s (added m t u) ≡ added m (multiplied m s t) (multiplied m s u)
  pub coded : (s : S) → length (scalar_code m s) ≡ m.width
  pub decoded : (s : S) → scalar_of m (scalar_code m s) ≡ Some s
  pub encoded : (bytes : List ℕ) (s : S) → scalar_of m bytes ≡ Some s → scalar_code m s ≡ bytes
