-- Reading undoes writing. Assumes nothing.
use Rattle.std.proofs.Common.{◌≡◌, ℕ, ◌+◌, ◌*◌, ◌/◌, ◌%◌, ◌<◌, Bool, true, false, cond, ◌⊎◌, List, [], ◌∷◌, length, get_or, take, Ok, Err, Result, sym, refl, ap, ◌∙◌, subst, inl, inr, ⊎_elim, arith}
use Rattle.std.proofs.lemmas.List.{get_or-take, get_or_append_left, length-take-le, length-append}
use Rattle.std.proofs.lemmas.List.Sums.{prefix_len-le-length}
use Rattle.std.proofs.lemmas.Bool.{eqb-true, and_parts, both_ways}
use Rattle.std.proofs.lemmas.Bool.Decides.{nat_tests}
use Rattle.std.specs.List.{prefix_len}
use Rattle.text.specs.Classes.{hex_digit}
use Rattle.text.specs.Hexadecimal.{digit, worth, written, paired, in_pairs, reading, Bytes, Begins, ReadingUndoesWriting}
use Rattle.text.proofs.Pairs.{reads_pairs}
use Rattle.text.proofs.Runs.{run_parts, run_of, front, stops, in_run}

worth_digit : (n : ℕ) → n < 16 → worth (digit n) ≡ n
worth_digit n small = grind (arith, nat_tests)

digit_worth : (c : ℕ) → hex_digit c ≡ true → (digit (worth c) ≡ c) × (worth c < 16)
digit_worth c h = (grind (arith, nat_tests), grind (arith, nat_tests))

digit_is : (n : ℕ) → n < 16 → hex_digit (digit n) ≡ true
digit_is n small = grind (arith, nat_tests)

written_run : (bs : List ℕ) → Bytes bs → prefix_len hex_digit (written bs) ≡ length (written bs)
written_run [] h = refl
written_run (b ∷ bs) h =
    let byte = h.0 in
    run_of hex_digit (digit (b / 16)) (digit (b % 16) ∷ written bs) (digit_is (b / 16) (omega arith))
    (run_of hex_digit (digit (b % 16)) (written bs) (digit_is (b % 16) (omega arith)) (written_run bs h.1))

written_even : (bs : List ℕ) → length (written bs) % 2 ≡ 0
written_even [] = refl
written_even (b ∷ bs) = omega (arith, written_even bs)

paired_written : (bs : List ℕ) → Bytes bs → paired (written bs) ≡ bs
paired_written [] h = refl
paired_written (b ∷ bs) h =
    let byte = h.0 in
    let high = worth_digit (b / 16) (omega arith) in
    let low = worth_digit (b % 16) (omega arith) in
    let same : worth (digit (b / 16)) * 16 + worth (digit (b % 16)) ≡ b = omega (arith, high, low) in
    (λ i. same i ∷ paired_written bs h.1 i)

back : (bs : List ℕ) → Bytes bs → reading (written bs) ≡ Ok bs
back bs h = reads_pairs (written bs) (written_run bs h) (written_even bs) ∙ ap Ok (paired_written bs h)

byte_of : (h l : ℕ) → hex_digit h ≡ true → hex_digit l ≡ true →
    (worth h * 16 + worth l < 256) × (digit ((worth h * 16 + worth l) / 16) ≡ h) × (digit ((worth h * 16 + worth l) % 16) ≡ l)
byte_of h l high low =
    let x = digit_worth h high in
    let y = digit_worth l low in
    let q : (worth h * 16 + worth l) / 16 ≡ worth h = omega (arith, y.1) in
    let r : (worth h * 16 + worth l) % 16 ≡ worth l = omega (arith, y.1) in
    (omega (arith, x.1, y.1), ap digit q ∙ x.0, ap digit r ∙ y.0)

-- digits in pairs are the written form of what they stand for
only : (t : List ℕ) → prefix_len hex_digit t ≡ length t → length t % 2 ≡ 0 → Bytes (paired t) × (written (paired t) ≡ t)
only [] run even = (tt, refl)
only (c ∷ []) run even = absurd (omega arith)
only (h ∷ l ∷ t) run even =
    let one = run_parts hex_digit h (l ∷ t) run in
    let two = run_parts hex_digit l t one.1 in
    let b = byte_of h l one.0 two.0 in
    let rest = only t two.1 (omega arith) in
    ((b.0, rest.0), λ i. b.1 i ∷ b.2 i ∷ rest.1 i)

-- digits are how a written form begins; where their number is odd, a digit 0 ends it
begins : (t : List ℕ) → prefix_len hex_digit t ≡ length t → Begins t
begins [] run = ([], tt, ([], refl))
begins (c ∷ []) run =
    let b = byte_of c 48 (run_parts hex_digit c [] run).0 refl in
    ((worth c * 16 + worth 48) ∷ [], (b.0, tt), (48 ∷ [], λ i. b.1 i ∷ b.2 i ∷ []))
begins (h ∷ l ∷ t) run =
    let one = run_parts hex_digit h (l ∷ t) run in
    let two = run_parts hex_digit l t one.1 in
    let b = byte_of h l one.0 two.0 in
    let more = begins t two.1 in
    ((worth h * 16 + worth l) ∷ more.0, (b.0, more.1), (more.2.0, λ i. b.1 i ∷ b.2 i ∷ more.2.1 i))

-- what a text is read as, by whether it is digits in pairs
read_as : (t : List ℕ) (r : Result (List ℕ) ℕ) → reading t ≡ r →
    ((prefix_len hex_digit t ≡ length t) × (length t % 2 ≡ 0) × (r ≡ Ok (paired t))) ⊎ (r ≡ Err (prefix_len hex_digit t))
unfolding reading
read_as t r e =
    let go : (b : Bool) → in_pairs t ≡ b → cond b (Ok (paired t)) (Err (prefix_len hex_digit t)) ≡ r → ((prefix_len hex_digit t ≡ length t) × (length t % 2 ≡ 0) × (r ≡ Ok (paired t))) ⊎ (r ≡ Err (prefix_len hex_digit t)) =
    λ b. elim b as (λ v. in_pairs t ≡ v → cond v (Ok (paired t)) (Err (prefix_len hex_digit t)) ≡ r → ((prefix_len hex_digit t ≡ length t) × (length t % 2 ≡ 0) × (r ≡ Ok (paired t))) ⊎ (r ≡ Err (prefix_len hex_digit t))) [
      | true ↦ λ yes-b is. let parts = and_parts _ _ yes-b in inl (eqb-true _ _ parts.0, eqb-true _ _ parts.1, sym is)
      | false ↦ λ no-b is. inr (sym is)
    ] in
    go (in_pairs t) refl e

ok_same : {x y : List ℕ} → ◌≡◌ {A = Result (List ℕ) ℕ} (Ok x) (Ok y) → x ≡ y
ok_same e = cc

ok_err : {x : List ℕ} {n : ℕ} → ◌≡◌ {A = Result (List ℕ) ℕ} (Ok x) (Err n) → ⊥
ok_err e = let z : ◌≡◌ {A = ℕ} 0 1 = cc in omega arith

place_is : (t : List ℕ) (place : ℕ) → reading t ≡ Err place → place ≡ prefix_len hex_digit t
place_is t place e = ⊎_elim (λ ok. absurd (ok_err (sym ok.2))) (λ err. let same : place ≡ prefix_len hex_digit t = cc in same) (read_as t (Err place) e)

pub reading_undoes_writing : ReadingUndoesWriting
reading_undoes_writing = record {
  back = back;
  only = λ t bs e.
      ⊎_elim (λ ok. let same : paired t ≡ bs = ok_same (sym ok.2) in subst (λ l. Bytes l × (written l ≡ t)) same (only t ok.0 ok.1))
      (λ err. absurd (ok_err err)) (read_as t (Ok bs) e);
  none = λ t place e bs bytes same. ok_err (sym (back bs bytes) ∙ ap reading same ∙ e);
  so_far = λ t place e.
      let p = place_is t place e in
      (omega (arith, prefix_len-le-length hex_digit t), subst (λ n. Begins (take n t)) (sym p) (begins _ (front hex_digit t)));
  no_further = λ t place e n past within b.
      let p = place_is t place e in
      let ws = written b.0 in
      let long : length (take n t) ≡ n = length-take-le n t within in
      let sum : length ws ≡ length (take n t) + length b.2.0 = ap length b.2.1 ∙ length-append (take n t) b.2.0 in
      let at : get_or ws place 0 ≡ get_or t place 0 = ap (λ l. get_or l place 0) b.2.1 ∙ get_or_append_left (take n t) b.2.0 0 place (omega arith) ∙ get_or-take n t place 0 past in
      let yes-digit : hex_digit (get_or t place 0) ≡ true = ap hex_digit (sym at) ∙ in_run hex_digit ws (written_run b.0 b.1) place (omega arith) in
      let no_digit : hex_digit (get_or t place 0) ≡ false = subst (λ k. hex_digit (get_or t k 0) ≡ false) (sym p) (stops hex_digit t (omega arith)) in
      both_ways _ no_digit yes-digit;
}
