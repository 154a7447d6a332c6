-- What opening and closing do, in the words of the subject.
use Rattle.std.specs.Prelude.{◌≡◌, ℕ, ◌+◌, false, List, Some, None, ◌≢◌}
use Rattle.ring.specs.declared.Epoch.{Epoch}
use Rattle.ring.specs.Places.{Place, key_in, taken, closed, full, open_count}

-- An epoch that was not open has its key once it is opened, and one is open more; every other epoch has what it
-- had. A closed epoch has no key, and every other epoch what it had.
pub record RingLaws (K : Type 0) : Type 0 where
  pub opened : (ps : List (Place K)) (x : Epoch K) → full ps ≡ false → key_in ps x.number ≡ None → key_in (taken x ps) x.number ≡ Some x.key
  pub others_opened : (ps : List (Place K)) (x : Epoch K) (e : ℕ) → (e ≢ x.number) → key_in (taken x ps) e ≡ key_in ps e
  pub one_more : (ps : List (Place K)) (x : Epoch K) → full ps ≡ false → open_count (taken x ps) ≡ 1 + open_count ps
  pub closed_one : (ps : List (Place K)) (e : ℕ) → key_in (closed e ps) e ≡ None
  pub others_closed : (ps : List (Place K)) (e f : ℕ) → (f ≢ e) → key_in (closed e ps) f ≡ key_in ps f
