-- Values with a join and a null, and what so many of one value come to.
use Rattle.std.specs.Prelude.{◌≡◌, ℕ, zero, suc}

-- Joins can be bracketed and swapped, and the null adds nothing to a join.
pub record JoinLaws {M : Type 0} (null : M) (join : M → M → M) : Type 0 where
  pub grouped : (x y z : M) → join (join x y) z ≡ join x (join y z)
  pub swapped : (x y : M) → join x y ≡ join y x
  pub neutral : (x y : M) → join null (join x y) ≡ join x y
  pub nothing : join null null ≡ null

-- n of x joined, from the null on
unfoldable pub repeated : {M : Type 0} → M → (M → M → M) → ℕ → M → M
repeated null join zero x = null
repeated null join (suc n) x = join (repeated null join n x) x
