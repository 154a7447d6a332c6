-- What the calls make of the chains and of the pairs, for every sound table. Assumes nothing.
use Rattle.std.proofs.Common.{◌≡◌, ℕ, ◌<◌, List, [], ◌∷◌, ◌++◌, map, length, Ok, Err, sym, refl, ap, ◌∙◌, subst, inl, inr, ⊎_elim, arith}
use Rattle.std.specs.List.{ContainsAt as Has}
use Rattle.book.specs.Meaning.{others}
use Rattle.chains.specs.Tables.{Table, head, chain_of, cleared, marked, dropped}
use Rattle.chains.specs.Chains.{chain, pairs, Sound}
use Rattle.chains.specs.Calls.{Chained}
use Rattle.faults.specs.declared.BookFault.TheVariants.{Spent, Full}
use Rattle.chains.specs.Laws.{OneAnswer, Found, ClearedChains, MarkedChains, DroppedChains}
use Rattle.chains.proofs.Links.{Linked, length_put}
use Rattle.chains.proofs.Joins.{has_own, own_has, inserted_cases, inserted_has}
use Rattle.chains.proofs.Fits.{all_of, pair_at, Fits, moved_same, moved_free, moved_other, chain_below}
use Rattle.chains.proofs.Marking as marking
use Rattle.chains.proofs.Dropping.{drop_lists, drop_fits, drop_chain, drop_free, drop_long, drop_pairs}
use Rattle.chains.proofs.Clearing.{clear_lists, clear_free, clear_empty, clear_none, clear_fits}
use Rattle.chains.proofs.Soundness.{fits_from_sound, chain_is, pairs_is, sound_from_fits}

pub one_answer : OneAnswer
one_answer t p (Ok x) (Ok y) u v a b = (refl, a.2 ∙ sym b.2)
one_answer t p (Ok x) (Err Spent) u v a b = absurd (a.0 b.0)
one_answer t p (Ok x) (Err Full) u v a b = let l = a.1 in let f = b.1 in absurd (omega arith)
one_answer t p (Err Spent) (Ok y) u v a b = absurd (b.0 a.0)
one_answer t p (Err Spent) (Err Spent) u v a b = (refl, a.1 ∙ sym b.1)
one_answer t p (Err Spent) (Err Full) u v a b = absurd (b.0 a.0)
one_answer t p (Err Full) (Ok y) u v a b = let f = a.1 in let l = b.1 in absurd (omega arith)
one_answer t p (Err Full) (Err Spent) u v a b = absurd (a.0 b.0)
one_answer t p (Err Full) (Err Full) u v a b = (refl, a.2 ∙ sym b.2)

pub found : Found
unfolding Chained pairs
found t p s =
    let fits = fits_from_sound t s in (
      λ h. own_has (pair_at t) (chain t) 0 64 (chain_of p.1) p (omega arith) (chain_below p.1) h,
      λ h. has_own (pair_at t) (λ q. chain_of q.1) (chain t) 0 64 p (λ d lo hi. fits.placed d hi) h,
    )

pub cleared_chains : ClearedChains
cleared_chains n some =
    let fits = clear_fits n some in
    record {
      sound = sound_from_fits (cleared n) (clear_lists n) fits;
      pairs_left = pairs_is (cleared n) (clear_lists n) fits ∙ ap (map (pair_at (cleared n))) (clear_none n 0 64 (omega arith));
      chains = λ c lt. chain_is (cleared n) (clear_lists n) fits c (omega arith) ∙ clear_empty n c lt;
      free_chain = chain_is (cleared n) (clear_lists n) fits 64 (omega arith) ∙ clear_free n;
    }

-- the free chain begins with the free head, where a place is left
first_free : (t : Table) → Sound t → t.size < length t.entries → (fs : List ℕ) × (chain t 64 ≡ head t 64 ∷ fs)
first_free t s room = begins (chain t 64) ((fits_from_sound t s).linked 64 (omega arith)) (λ e. omega (arith, s.6.0, s.6.1, ap length e))
  where
    begins : (ks : List ℕ) → Linked t.entries (head t 64) ks → (ks ≡ [] → ⊥) → (fs : List ℕ) × (ks ≡ head t 64 ∷ fs)
    begins [] l some = absurd (some refl)
    begins (k ∷ ks) l some = (ks, ap (λ x. x ∷ ks) (sym l.0))

pub marked_chains : MarkedChains
unfolding marking.lists marking.after
marked_chains t p s nonce new room =
    let ls = chain t in
    let fits = fits_from_sound t s in
    let k = head t 64 in
    let c = chain_of p.1 in
    let ff = first_free t s room in
    let fs = ff.0 in
    let first = ff.1 in
    let lt = chain_below p.1 in
    let is : marked t p ≡ marking.after t ls p k fs fits first nonce = marking.mark_is t ls p k fs fits first nonce in
    let before : pairs t ≡ marking.front t ls p k fs fits first nonce ++ marking.back t ls p k fs fits first nonce = pairs_is t ls fits ∙ marking.pairs_before t ls p k fs fits first nonce in
    let absent : Has (map (pair_at t) (all_of ls)) p → ⊥ = λ h. new ((found t p s).1 (subst (λ w. Has w p) (sym (pairs_is t ls fits)) h)) in
    let fits' : Fits (marked t p) (marking.lists t ls p k fs fits first nonce) = subst (λ u. Fits u (marking.lists t ls p k fs fits first nonce)) (sym is) (marking.mark_fits t ls p k fs fits first nonce absent) in
    let ms = marking.lists t ls p k fs fits first nonce in
    let after : pairs (marked t p) ≡ marking.front t ls p k fs fits first nonce ++ p ∷ marking.back t ls p k fs fits first nonce =
    pairs_is (marked t p) ms fits' ∙ ap (λ u. map (pair_at u) (all_of ms)) is ∙ marking.pairs_after t ls p k fs fits first nonce in
    let A = marking.front t ls p k fs fits first nonce in
    let B = marking.back t ls p k fs fits first nonce in
    record {
      sound = sound_from_fits (marked t p) ms fits';
      front = chain_is (marked t p) ms fits' c (omega arith) ∙ moved_same ls c (k ∷ ls c) fs lt;
      taken = first ∙ ap (λ w. k ∷ w) (sym (chain_is (marked t p) ms fits' 64 (omega arith) ∙ moved_free ls c (k ∷ ls c) fs lt));
      stay = λ d l ne. chain_is (marked t p) ms fits' d (omega arith) ∙ moved_other ls c (k ∷ ls c) fs lt d l ne;
      added = λ q. (
        λ h. ⊎_elim (λ (x : Has (A ++ B) q). inl (subst (λ w. Has w q) (sym before) x)) (λ (x : q ≡ p). inr x) (inserted_cases A B p q (subst (λ w. Has w q) after h)),
        λ h. subst (λ w. Has w q) (sym after) (inserted_has A B p q (⊎_elim (λ (x : Has (pairs t) q). inl (subst (λ w. Has w q) before x)) (λ (x : q ≡ p). inr x) h)),
      );
      places = ap (λ (u : Table). length u.entries) is ∙ length_put t.entries k (record { next = head t c; epoch = p.0; nonce = p.1 });
    }

pub dropped_chains : DroppedChains
dropped_chains e t s =
    let ls = chain t in
    let fits = fits_from_sound t s in
    let ms = drop_lists e t ls fits in
    let fits' = drop_fits e t ls fits in
    record {
      sound = sound_from_fits (dropped e t) ms fits';
      kept = λ c lt. chain_is (dropped e t) ms fits' c (omega arith) ∙ drop_chain e t ls fits c lt;
      freed = chain_is (dropped e t) ms fits' 64 (omega arith) ∙ drop_free e t ls fits;
      pairs_left = pairs_is (dropped e t) ms fits' ∙ drop_pairs e t ls fits ∙ ap (others e) (sym (pairs_is t ls fits));
      places = drop_long e t ls fits;
    }
