-- Texts that are digits in pairs, pair by pair. Assumes nothing.
use Rattle.std.proofs.Common.{◌≡◌, ℕ, zero, suc, ◌+◌, ◌*◌, ◌/◌, ◌%◌, ◌<◌, ◌≤◌, T, List, [], ◌∷◌, ◌++◌, length, get_or, take, drop, Ok, Err, sym, refl, ap, ◌∙◌, subst, append_assoc, append-nil, arith}
use Rattle.std.proofs.lemmas.List.{drop-drop, get_or-take, length-drop}
use Rattle.std.specs.Simd.{first_chunks}
use Rattle.std.specs.List.{prefix_len}
use Rattle.text.specs.Classes.{hex_digit}
use Rattle.std.proofs.lemmas.Bool.{eq-eqb, ne_eqb}
use Rattle.text.specs.Hexadecimal.{paired, worth, reading}
use Rattle.text.proofs.Runs.{run_parts}

-- what is left to read of a text, while `done` has what was there before it and the bytes read so far
pub record Sofar (whole left done : List ℕ) : Type 0 where
  pub digits : prefix_len hex_digit left ≡ length left
  pub even : length left % 2 ≡ 0
  pub same : done ++ paired left ≡ whole

module _ (whole done : List ℕ) where
  pub first_digits : (r : List ℕ) → 2 ≤ length r → Sofar whole r done → T (hex_digit (get_or r 0 0)) × T (hex_digit (get_or r 1 0))
  first_digits [] two s = absurd (omega arith)
  first_digits (c ∷ []) two s = absurd (omega arith)
  first_digits (h ∷ l ∷ after) two s =
      let one = run_parts hex_digit h (l ∷ after) s.digits in
      (subst T (sym one.0) tt, subst T (sym (run_parts hex_digit l after one.1).0) tt)

  pub one_more : (r : List ℕ) (a b : ℕ) → 2 ≤ length r → Sofar whole r done → a ≡ worth (get_or r 0 0) → b ≡ worth (get_or r 1 0) → Sofar whole (drop 2 r) (done ++ (a * 16 + b) ∷ [])
  one_more [] a b two s x y = absurd (omega arith)
  one_more (c ∷ []) a b two s x y = absurd (omega arith)
  one_more (h ∷ l ∷ after) a b two s x y =
      let one = run_parts hex_digit h (l ∷ after) s.digits in
      record {
        digits = (run_parts hex_digit l after one.1).1;
        even = omega (arith, s.even);
        same = append_assoc done _ (paired after) ∙ ap (λ n. done ++ n ∷ paired after) (ap (λ n. n * 16 + b) x ∙ ap (λ n. worth h * 16 + n) y) ∙ s.same;
      }

-- the pair at place i
pub pair_at : (k : ℕ) (t : List ℕ) (i : ℕ) → i < k → get_or (first_chunks 2 k t) i [] ≡ take 2 (drop (2 * i) t)
pair_at zero t i h = absurd (omega arith)
pair_at (suc k) t zero h = refl
pair_at (suc k) t (suc i) h =
    let place : 2 + 2 * i ≡ 2 * suc i = omega arith in
    pair_at k (drop 2 t) i (omega arith) ∙ ap (take 2) (drop-drop (2 * i) 2 t ∙ ap (λ n. drop n t) place)

module _ (whole done t pair : List ℕ) (i : ℕ) (is : pair ≡ take 2 (drop (2 * i) t)) (inside : 2 * i + 2 ≤ length t) (s : Sofar whole (drop (2 * i) t) done) where
  at : (j : ℕ) → j < 2 → get_or pair j 0 ≡ get_or (drop (2 * i) t) j 0
  at j h = ap (λ l. get_or l j 0) is ∙ get_or-take 2 (drop (2 * i) t) j 0 h

  pub pair_digits : T (hex_digit (get_or pair 0 0)) × T (hex_digit (get_or pair 1 0))
  pair_digits =
      let both = first_digits whole done (drop (2 * i) t) (omega (arith, length-drop (2 * i) t)) s in
      (subst (λ c. T (hex_digit c)) (sym (at 0 (omega arith))) both.0, subst (λ c. T (hex_digit c)) (sym (at 1 (omega arith))) both.1)

  pub pair_read : (a b : ℕ) → a ≡ worth (get_or pair 0 0) → b ≡ worth (get_or pair 1 0) → Sofar whole (drop (2 * (i + 1)) t) (done ++ (a * 16 + b) ∷ [])
  pair_read a b x y =
      let place : 2 * i + 2 ≡ 2 * (i + 1) = omega arith in
      subst (λ l. Sofar whole l (done ++ (a * 16 + b) ∷ [])) (drop-drop 2 (2 * i) t ∙ ap (λ n. drop n t) place)
      (one_more whole done (drop (2 * i) t) a b (omega (arith, length-drop (2 * i) t)) s (x ∙ ap worth (at 0 (omega arith))) (y ∙ ap worth (at 1 (omega arith))))

pub length_paired : (t : List ℕ) → length t % 2 ≡ 0 → length (paired t) ≡ length t / 2
length_paired [] h = refl
length_paired (c ∷ []) h = absurd (omega arith)
length_paired (h ∷ l ∷ t) e = ap suc (length_paired t (omega arith)) ∙ omega arith

-- a text in which no pair is left has been read whole
pub all_read : (whole left done : List ℕ) → length left < 2 → Sofar whole left done → done ≡ whole
all_read whole [] done h s = sym (append-nil done) ∙ s.same
all_read whole (c ∷ []) done h s = absurd (omega (arith, s.even))
all_read whole (c ∷ d ∷ left) done h s = absurd (omega arith)

module _ (t : List ℕ) where
  pub reads_pairs : prefix_len hex_digit t ≡ length t → length t % 2 ≡ 0 → reading t ≡ Ok (paired t)
  unfolding reading
  reads_pairs h e = rw (eq-eqb (prefix_len hex_digit t) (length t) h, eq-eqb (length t % 2) 0 e)

  pub refuses_others : prefix_len hex_digit t < length t → reading t ≡ Err (prefix_len hex_digit t)
  unfolding reading
  refuses_others h = rw (ne_eqb (prefix_len hex_digit t) (length t) (λ e. omega arith))

  pub refuses_odd : (length t % 2 ≡ 0 → ⊥) → prefix_len hex_digit t ≡ length t → reading t ≡ Err (prefix_len hex_digit t)
  unfolding reading
  refuses_odd h e = rw (eq-eqb (prefix_len hex_digit t) (length t) e, ne_eqb (length t % 2) 0 h)
