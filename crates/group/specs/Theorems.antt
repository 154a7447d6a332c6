-- What holds in every kind of group, in the words of the subject.
use Rattle.std.specs.Prelude.{◌≡◌, ℕ, suc, ◌*◌, List, [], ◌∷◌, ◌++◌, map, length, None, Ok, Err, ◌≢◌}
use Rattle.faults.specs.declared.GroupFault.TheVariants.{NoElement}
use Rattle.scalar.specs.Scalars.{added, multiplied}
use Rattle.group.specs.Model.{Model}
use Rattle.group.specs.Elements.{null, generator, sum, opposite, base_multiple, multiple}
use Rattle.group.specs.Weighted.{weighted, weighted_sum}
use Rattle.group.specs.declared.SumFault.TheVariants.{Item}

-- The elements are a group, and the scalars multiply them.
pub record Lawful {E S K : Type 0} (m : Model E S K) : Type 0 where
  pub grouped : (x y z : E) → sum m (sum m x y) z ≡ sum m x (sum m y z)
  pub swapped : (x y : E) → sum m x y ≡ sum m y x
  pub neutral : (x : E) → sum m x (null m) ≡ x
  pub cancelled : (x : E) → sum m x (opposite m x) ≡ null m
  pub based : (s : S) → base_multiple m s ≡ multiple m s (generator m)
  pub twice : (s t : S) (x : E) → multiple m (multiplied m.scalars s t) x ≡ multiple m s (multiple m t x)
  pub shared : (s t : S) (x : E) → multiple m (added m.scalars s t) x ≡ sum m (multiple m s x) (multiple m t x)
  pub spread : (s : S) (x y : E) → multiple m s (sum m x y) ≡ sum m (multiple m s x) (multiple m s y)
  pub one_code : (x y : E) → m.code x ≡ m.code y → x ≡ y

-- Unblinding: the inverse of r, times k times r times P, is k times P.
abbrev pub Unblinds : {E S K : Type 0} → Model E S K → Type 0
Unblinds {E} {S} {K} m =
    (r : K) (k : S) (p : E) → multiple m (m.scalars.inverse (m.scalars.part r)) (multiple m k (multiple m (m.scalars.part r) p)) ≡ multiple m k p

-- Of two elements that are not null, exactly one nonzero scalar takes the one to the other.
abbrev pub OneScalar : {E S K : Type 0} → Model E S K → Type 0
OneScalar {E} {S} {K} m =
    (p x : E) → (p ≢ null m) → (x ≢ null m) →
    (k : K) × (multiple m (m.scalars.part k) p ≡ x) × ((j : K) → multiple m (m.scalars.part j) p ≡ x → j ≡ k)

-- the codes of elements in a row
abbrev pub row : {E S K : Type 0} → Model E S K → List E → List ℕ
row m [] = []
row m (p ∷ ps) = m.code p ++ row m ps

-- A weighted sum of no elements is null, and each element more adds its multiple; of multiples by k it is the
-- multiple by k. Over the codes of as many elements as there are scalars it is that of the elements; where bytes
-- are no code, it tells the first such item.
pub record Weighs {E S K : Type 0} (m : Model E S K) : Type 0 where
  pub empty : weighted m [] [] ≡ null m
  pub more : (s : S) (ss : List S) (p : E) (ps : List E) → weighted m (s ∷ ss) (p ∷ ps) ≡ sum m (multiple m s p) (weighted m ss ps)
  pub carried : (k : S) (ss : List S) (ps : List E) → weighted m ss (map (multiple m k) ps) ≡ multiple m k (weighted m ss ps)
  pub whole : (ss : List S) (ps : List E) → length ps ≡ length ss → weighted_sum m (row m ps) ss ≡ Ok (weighted m ss ps)
  pub first : (ss : List S) (ps : List E) (bad rest : List ℕ) → length bad ≡ m.element_width → m.element bad ≡ None →
      length (row m ps ++ (bad ++ rest)) ≡ length ss * m.element_width →
      weighted_sum m (row m ps ++ (bad ++ rest)) ss ≡ Err (Item (suc (length ps)) NoElement)
