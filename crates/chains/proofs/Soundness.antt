-- A sound table, and its chains as lists: the one from the other. Assumes nothing.
use Rattle.std.proofs.Common.{◌≡◌, ℕ, ◌<◌, ◌≤◌, List, map, length, get_or, replicate, sym, ap, ◌∙◌, subst, arith}
use Rattle.std.specs.List.{AllByRecursion}
use Rattle.std.proofs.ByRecursion.{All-get_or, All-from_get_or}
use Rattle.book.specs.Meaning.{Apart}
use Rattle.chains.specs.Tables.{Table, at, head, chain_of}
use Rattle.chains.specs.Chains.{stop, chain, used, pairs, Ended, Within, Placed, Unfree, Sound}
use Rattle.chains.proofs.Links.{Not, linked_walk, walk_linked, linked_range}
use Rattle.chains.proofs.Joins.{joined_agree}
use Rattle.chains.proofs.Fits.{all_of, pair_at, Fits}
use Rattle.chains.proofs.Dropping.{chain_short}

pub fits_from_sound : (t : Table) → Sound t → Fits t (chain t)
unfolding pairs
fits_from_sound t s = record {
  wide = s.0.0;
  shaped = s.0.1;
  linked = λ c le. walk_linked t.entries (length t.entries) (head t c) (s.1 c le) (All-from_get_or (λ k. k ≤ length t.entries) (chain t c) 0 (λ i b. s.2 c i (le, b)));
  placed = λ c lt. All-from_get_or (λ k. chain_of (at t k).nonce ≡ c) (chain t c) 0 (λ i b. s.3 c i (lt, b));
  unfree = λ c lt. All-from_get_or (λ k. Not k (chain t 64)) (chain t c) 0 (λ i b. All-from_get_or (λ j. j ≡ get_or (chain t c) i 0 → ⊥) (chain t 64) 0 (λ j d e. s.4 c i j (lt, b, d, e)));
  blank = All-from_get_or (λ k. ((at t k).epoch ≡ 0) × ((at t k).nonce ≡ replicate 32 0)) (chain t 64) 0 (λ j b. (s.5.0 j b, s.5.1 j b));
  size = s.6.0;
  room = s.6.1;
  apart = s.7;
}

module _ (t : Table) (ls : ℕ → List ℕ) (fits : Fits t ls) where
  ends : (c : ℕ) → c ≤ 64 → (chain t c ≡ ls c) × (stop t.entries (length t.entries) (head t c) ≡ 0)
  ends c le = linked_walk t.entries (head t c) (ls c) (length t.entries) (fits.linked c le) (chain_short t ls c fits le)

  pub chain_is : (c : ℕ) → c ≤ 64 → chain t c ≡ ls c
  chain_is c le = (ends c le).0

  pub used_is : used t ≡ all_of ls
  used_is = joined_agree (chain t) ls 0 64 (λ d lo hi. chain_is d (omega arith))

  pub pairs_is : pairs t ≡ map (pair_at t) (all_of ls)
  unfolding pairs
  pairs_is = ap (map (pair_at t)) used_is

  ended : Ended t
  ended c le = (ends c le).1

  within : Within t
  within c i (le, b) = All-get_or (λ k. k ≤ length t.entries) (chain t c) i 0 b (subst (AllByRecursion (λ k. k ≤ length t.entries)) (sym (chain_is c le)) (linked_range t.entries (head t c) (ls c) (fits.linked c le)))

  placed : Placed t
  placed c i (lt, b) = All-get_or (λ k. chain_of (at t k).nonce ≡ c) (chain t c) i 0 b (subst (AllByRecursion (λ k. chain_of (at t k).nonce ≡ c)) (sym (chain_is c (omega arith))) (fits.placed c lt))

  unfree : Unfree t
  unfree c i j (lt, b, d, e) =
      let apart : AllByRecursion (λ k. Not k (chain t 64)) (chain t c) = subst (λ w. AllByRecursion (λ k. Not k w) (chain t c)) (sym (chain_is 64 (omega arith))) (subst (AllByRecursion (λ k. Not k (ls 64))) (sym (chain_is c (omega arith))) (fits.unfree c lt)) in
      All-get_or (λ y. y ≡ get_or (chain t c) i 0 → ⊥) (chain t 64) j 0 d (All-get_or (λ k. Not k (chain t 64)) (chain t c) i 0 b apart) e

  blanks : (j : ℕ) → j < length (chain t 64) → ((at t (get_or (chain t 64) j 0)).epoch ≡ 0) × ((at t (get_or (chain t 64) j 0)).nonce ≡ replicate 32 0)
  blanks = λ j b. All-get_or (λ k. ((at t k).epoch ≡ 0) × ((at t k).nonce ≡ replicate 32 0)) (chain t 64) j 0 b (subst (AllByRecursion (λ k. ((at t k).epoch ≡ 0) × ((at t k).nonce ≡ replicate 32 0))) (sym (chain_is 64 (omega arith))) fits.blank)

  pub sound_from_fits : Sound t
  sound_from_fits = (
    (fits.wide, fits.shaped),
    ended,
    within,
    placed,
    unfree,
    (λ j b. (blanks j b).0, λ j b. (blanks j b).1),
    (fits.size ∙ sym (ap length used_is), omega (arith, fits.room, ap length used_is, ap length (chain_is 64 (omega arith)))),
    subst Apart (sym pairs_is) fits.apart,
  )
