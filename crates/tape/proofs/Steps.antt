-- What the writes of a clear, a mark and a drop leave of a tape. Assumes nothing.
use Rattle.std.proofs.Common.{◌≡◌, ℕ, ◌+◌, ◌<◌, ◌≤◌, true, false, cond, not, eqb, ◌⊎◌, List, [], ◌∷◌, ◌++◌, length, get_or, sym, ap, ◌∙◌, subst, inl, inr, ⊎_elim, arith}
use Rattle.std.specs.List.{ContainsAt as Has}
use Rattle.std.proofs.lemmas.Bool.{cases_lt, not_from_true, not_from_false, eq-eqb, ne_eqb}
use Rattle.std.proofs.lemmas.List.{append-nil}
use Rattle.std.proofs.lemmas.List.FromFn.{map-range_with_len_more, filter_of_map_range_with_len_more}
use Rattle.book.specs.Meaning.{Pair, Apart, others}
use Rattle.book.proofs.Sets.{apart_push, apart_kept}
use Rattle.book.specs.Words.{word, Bytes}
use Rattle.tape.specs.Layout.{image, place, pair_at, firsts, pairs_of, later, Fitting, Laid, Sound}
use Rattle.tape.specs.Facts.{room_fits}
use Rattle.tape.specs.declared.tape_book.TapeBook.{TapeBook}
use Rattle.tape.proofs.Frames.{pair_kept, pair_moved, firsts_kept}
use Rattle.tape.proofs.Images.{Blank, laid_from_blank, blank_from_laid, later_stays}

-- ---- memory that is sound again, and its image
module _ (m0 m : List ℕ) (cap : ℕ) (ps : List Pair)
    (fitting : Fitting m0 cap) (long : length m ≡ length m0) (bytes : Bytes m)
    (within : word m 0 ≤ cap) (blank : Blank m cap) (pairs : pairs_of m ≡ ps) (apart : Apart ps)
    (past : (k : ℕ) → place cap ≤ k → get_or m k 0 ≡ get_or m0 k 0) where
  pub sound_again : Sound m cap × (m ≡ image ps cap (later m0 cap))
  sound_again =
      let inside = fitting.2 in
      let laid : Laid m cap = laid_from_blank m cap (fitting.0, fitting.1, omega arith) within bytes blank in (
        record { within = within; apart = subst Apart (sym pairs) apart; laid = laid },
        laid ∙ (λ i. image (pairs i) cap (later_stays m0 m cap long past i)),
      )

-- ---- clear: zeros up to the capacity
pub zeroed_size : (m : List ℕ) (cap : ℕ) → ((k : ℕ) → 0 ≤ k → k < place cap → get_or m k 0 ≡ 0) → word m 0 ≡ 0
zeroed_size m cap zeros = let a = zeros 0 (omega arith) (omega arith) in let b = zeros 1 (omega arith) (omega arith) in omega arith

-- ---- mark: a record behind the others, and then the size
module _ (m0 m1 m2 : List ℕ) (cap n e : ℕ) (v : List ℕ)
    (size : n ≡ word m0 0) (long1 : length m1 ≡ length m0) (long2 : length m2 ≡ length m0)
    (free : n < cap) (fitting : Fitting m0 cap) (sound : Sound m0 cap)
    (there : ◌≡◌ {A = Pair} (pair_at m1 (place n)) (e, v))
    (outside : (k : ℕ) → (k < place n) ⊎ (place n + 34 ≤ k) → get_or m1 k 0 ≡ get_or m0 k 0)
    (grown : word m2 0 ≡ n + 1)
    (kept : (k : ℕ) → (k < 0) ⊎ (2 ≤ k) → get_or m2 k 0 ≡ get_or m1 k 0) where
  inside : place cap ≤ length m0
  inside = fitting.2

  pushed : pairs_of m2 ≡ pairs_of m0 ++ (e, v) ∷ []
  pushed =
      let fits = inside in
      let last : ◌≡◌ {A = Pair} (pair_at m2 (place n)) (e, v) =
      pair_kept m1 m2 (place n) (omega arith) (omega arith) (λ k lo hi. kept k (inr (omega arith))) ∙ there in
      let front : firsts m2 n ≡ firsts m0 n =
      firsts_kept m0 m2 n (omega arith) long2 (λ k lo hi. kept k (inr lo) ∙ outside k (inl hi)) in
      let more : firsts m2 (n + 1) ≡ firsts m2 n ++ pair_at m2 (place n) ∷ [] = map-range_with_len_more (λ i. pair_at m2 (place i)) 0 n n (omega arith) in
      let size2 : firsts m2 (word m2 0) ≡ firsts m2 (n + 1) = ap (firsts m2) grown in
      let size0 : firsts m0 n ≡ firsts m0 (word m0 0) = ap (firsts m0) size in
      cc

  pushed_blank : Blank m2 cap
  pushed_blank k lo hi = kept k (inr (omega arith)) ∙ outside k (inr (omega arith)) ∙ blank_from_laid m0 cap fitting sound.within sound.laid k (omega arith) hi

  pushed_past : (k : ℕ) → place cap ≤ k → get_or m2 k 0 ≡ get_or m0 k 0
  pushed_past k h = kept k (inr (omega arith)) ∙ outside k (inr (omega arith))

  pub marked_sound : Bytes m2 → (Has (pairs_of m0) (e, v) → ⊥) → (pairs_of m2 ≡ pairs_of m0 ++ (e, v) ∷ []) × Sound m2 cap × (m2 ≡ image (pairs_of m0 ++ (e, v) ∷ []) cap (later m0 cap))
  marked_sound bytes new =
      let again = sound_again m0 m2 cap (pairs_of m0 ++ (e, v) ∷ []) fitting long2 bytes (omega arith) pushed_blank pushed (apart_push (pairs_of m0) (e, v) sound.apart new) pushed_past in
      (pushed, again.0, again.1)

-- ---- drop: a turn of its loop
module _ (m0 m m' : List ℕ) (e i stay n : ℕ)
    (below : i < n) (inside0 : place n ≤ length m0) (long : length m ≡ length m0) (long' : length m' ≡ length m0)
    (behind : stay ≤ i) (front : firsts m stay ≡ others e (firsts m0 i))
    (rest : (k : ℕ) → place i ≤ k → get_or m k 0 ≡ get_or m0 k 0) where
  more : others e (firsts m0 (i + 1)) ≡ others e (firsts m0 i) ++ cond (not (eqb (word m0 (place i)) e)) (pair_at m0 (place i) ∷ []) []
  more = filter_of_map_range_with_len_more (λ p. not (eqb p.0 e)) (λ j. pair_at m0 (place j)) 0 i i (omega arith)

  same_word : word m (place i) ≡ word m0 (place i)
  same_word = let a = rest (place i) (omega arith) in let b = rest (place i + 1) (omega arith) in cc

  pub drop_here : word m (place i) ≡ e → firsts m stay ≡ others e (firsts m0 (i + 1))
  drop_here is =
      let t : not (eqb (word m0 (place i)) e) ≡ false = not_from_true _ (eq-eqb _ _ (sym same_word ∙ is)) in
      front ∙ sym (more ∙ ap (λ b. others e (firsts m0 i) ++ cond b (pair_at m0 (place i) ∷ []) []) t ∙ append-nil _)

  pub keep_here : (word m (place i) ≡ e → ⊥) → ((j : ℕ) → j < 34 → get_or m' (place stay + j) 0 ≡ get_or m (place i + j) 0)
      → ((k : ℕ) → (k < place stay) ⊎ (place stay + 34 ≤ k) → get_or m' k 0 ≡ get_or m k 0) → firsts m' (stay + 1) ≡ others e (firsts m0 (i + 1))
  keep_here isnt there others' =
      let t : not (eqb (word m0 (place i)) e) ≡ true = not_from_false _ (ne_eqb _ _ (λ q. isnt (same_word ∙ q))) in
      let last : pair_at m' (place stay) ≡ pair_at m0 (place i) =
      pair_moved m0 m' (place i) (place stay) (omega arith) (omega arith) (λ j h. there j h ∙ rest (place i + j) (omega arith)) in
      let kept : firsts m' stay ≡ firsts m stay = firsts_kept m m' stay (omega arith) (long' ∙ sym long) (λ k lo hi. others' k (inl hi)) in
      let pushed' : firsts m' (stay + 1) ≡ firsts m' stay ++ pair_at m' (place stay) ∷ [] = map-range_with_len_more (λ i. pair_at m' (place i)) 0 stay stay (omega arith) in
      let more' : others e (firsts m0 (i + 1)) ≡ others e (firsts m0 i) ++ pair_at m0 (place i) ∷ [] = more ∙ ap (λ b. others e (firsts m0 i) ++ cond b (pair_at m0 (place i) ∷ []) []) t in
      cc

-- ---- drop: its end, zeros behind the records that stay, and then the size
module _ (m0 m m1 m2 : List ℕ) (cap e stay n : ℕ)
    (size : n ≡ word m0 0) (long : length m ≡ length m0) (long2 : length m2 ≡ length m0)
    (fitting : Fitting m0 cap) (sound : Sound m0 cap)
    (behind : stay ≤ n) (front : firsts m stay ≡ others e (firsts m0 n))
    (rest : (k : ℕ) → place n ≤ k → get_or m k 0 ≡ get_or m0 k 0)
    (zeros : (k : ℕ) → place stay ≤ k → k < place n → get_or m1 k 0 ≡ 0)
    (outside : (k : ℕ) → (k < place stay) ⊎ (place n ≤ k) → get_or m1 k 0 ≡ get_or m k 0)
    (shrunk : word m2 0 ≡ stay)
    (kept : (k : ℕ) → (k < 0) ⊎ (2 ≤ k) → get_or m2 k 0 ≡ get_or m1 k 0) where
  full : n ≤ cap
  full = let w = sound.within in omega arith

  dropped_pairs : pairs_of m2 ≡ others e (pairs_of m0)
  dropped_pairs =
      let le = full in
      let inside = fitting.2 in
      let same : firsts m2 stay ≡ firsts m stay = firsts_kept m m2 stay (omega arith) (long2 ∙ sym long) (λ k lo hi. kept k (inr lo) ∙ outside k (inl hi)) in
      ap (firsts m2) shrunk ∙ same ∙ front ∙ ap (λ c. others e (firsts m0 c)) size

  dropped_blank : Blank m2 cap
  dropped_blank k lo hi =
      kept k (inr (omega arith)) ∙ ⊎_elim
      (λ (b : k < place n). zeros k (omega arith) b)
      (λ (b : place n ≤ k). outside k (inr b) ∙ rest k b ∙ blank_from_laid m0 cap fitting sound.within sound.laid k (omega arith) hi)
      (cases_lt k (place n))

  dropped_past : (k : ℕ) → place cap ≤ k → get_or m2 k 0 ≡ get_or m0 k 0
  dropped_past k h = let le = full in kept k (inr (omega arith)) ∙ outside k (inr (omega arith)) ∙ rest k (omega arith)

  pub dropped_sound : Bytes m2 → (pairs_of m2 ≡ others e (pairs_of m0)) × Sound m2 cap × (m2 ≡ image (others e (pairs_of m0)) cap (later m0 cap))
  dropped_sound bytes =
      let le = full in
      let again = sound_again m0 m2 cap (others e (pairs_of m0)) fitting long2 bytes (omega arith) dropped_blank dropped_pairs
      (apart_kept (λ p. not (eqb p.0 e)) (pairs_of m0) sound.apart) dropped_past in
      (dropped_pairs, again.0, again.1)

-- ---- the same on a book
pub book_fits : (b : TapeBook) → Fitting b.memory.now b.capacity
book_fits b = room_fits b.memory.now b.capacity b.room

pub book_sound : (b : TapeBook) → Sound b.memory.now b.capacity
book_sound b = record { within = b.within; apart = b.apart; laid = b.laid }

pub marked_book : (b : TapeBook) (m1 m2 : List ℕ) (at n e : ℕ) (v : List ℕ) → at ≡ place n → n ≡ word b.memory.now 0 → (n ≡ b.capacity → ⊥)
    → length m1 ≡ length b.memory.now → length m2 ≡ length b.memory.now
    → ◌≡◌ {A = Pair} (pair_at m1 at) (e, v) → ((k : ℕ) → (k < at) ⊎ (at + 34 ≤ k) → get_or m1 k 0 ≡ get_or b.memory.now k 0)
    → word m2 0 ≡ n + 1 → ((k : ℕ) → (k < 0) ⊎ (2 ≤ k) → get_or m2 k 0 ≡ get_or m1 k 0) → Bytes m2 → (Has (pairs_of b.memory.now) (e, v) → ⊥)
    → (pairs_of m2 ≡ pairs_of b.memory.now ++ (e, v) ∷ []) × Sound m2 b.capacity × (m2 ≡ image (pairs_of b.memory.now ++ (e, v) ∷ []) b.capacity (later b.memory.now b.capacity))
marked_book b m1 m2 at n e v starts size notfull long1 long2 there outside grown kept bytes new =
    let w = b.within in
    marked_sound b.memory.now m1 m2 b.capacity n e v size long1 long2 (omega arith) (book_fits b) (book_sound b)
    (subst (λ x. ◌≡◌ {A = Pair} (pair_at m1 x) (e, v)) starts there)
    (subst (λ x. (k : ℕ) → (k < x) ⊎ (x + 34 ≤ k) → get_or m1 k 0 ≡ get_or b.memory.now k 0) starts outside)
    grown kept bytes new

pub dropped_book : (b : TapeBook) (m m1 m2 : List ℕ) (e stay n from to : ℕ) → from ≡ place stay → to ≡ place n → n ≡ word b.memory.now 0
    → length m ≡ length b.memory.now → length m2 ≡ length b.memory.now → stay ≤ n → firsts m stay ≡ others e (firsts b.memory.now n)
    → ((k : ℕ) → place n ≤ k → get_or m k 0 ≡ get_or b.memory.now k 0)
    → ((k : ℕ) → from ≤ k → k < to → get_or m1 k 0 ≡ 0) → ((k : ℕ) → (k < from) ⊎ (to ≤ k) → get_or m1 k 0 ≡ get_or m k 0)
    → word m2 0 ≡ stay → ((k : ℕ) → (k < 0) ⊎ (2 ≤ k) → get_or m2 k 0 ≡ get_or m1 k 0) → Bytes m2
    → (pairs_of m2 ≡ others e (pairs_of b.memory.now)) × Sound m2 b.capacity × (m2 ≡ image (others e (pairs_of b.memory.now)) b.capacity (later b.memory.now b.capacity))
dropped_book b m m1 m2 e stay n from to low high size long long2 behind front rest zeros outside shrunk kept bytes =
    dropped_sound b.memory.now m m1 m2 b.capacity e stay n size long long2 (book_fits b) (book_sound b) behind front rest
    (λ k lo hi. zeros k (omega arith) (omega arith))
    (λ k s. outside k (⊎_elim (λ (x : k < place stay). inl (omega arith)) (λ (x : place n ≤ k). inr (omega arith)) s))
    shrunk kept bytes
