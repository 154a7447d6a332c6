-- Words, blanks and comments, from the front of a line. Assumes nothing.
use Rattle.std.proofs.Common.{◌≡◌, ℕ, suc, ◌+◌, ◌<◌, Bool, true, false, cond, not, ◌&&◌, List, [], ◌∷◌, ◌++◌, length, take, drop, sym, refl, ap, ◌∙◌, subst, append-nil, one-add, arith}
use Rattle.std.proofs.lemmas.List.{drop_all}
use Rattle.std.proofs.lemmas.Bool.{and_parts, both_ways, not-false}
use Rattle.std.proofs.lemmas.Bool.Decides.{nat_tests}
use Rattle.std.specs.List.{prefix_len, AllByRecursion}
use Rattle.text.specs.Classes.{blank, solid, code}
use Rattle.text.specs.Lines.{before_comment, starts_solid, onto_first, words, line_words, in_word, Word, Ends, Laid, nothing, comment, gap, word, spaced, OneReading}

-- the run of a text with one character more in front
run_yes : (p : ℕ → Bool) (c : ℕ) (cs : List ℕ) → p c ≡ true → prefix_len p (c ∷ cs) ≡ suc (prefix_len p cs)
run_yes p c cs e = ap (λ b. cond b (1 + prefix_len p cs) 0) e ∙ one-add (prefix_len p cs)

run_no : (p : ℕ → Bool) (c : ℕ) (cs : List ℕ) → p c ≡ false → prefix_len p (c ∷ cs) ≡ 0
run_no p c cs e = ap (λ b. cond b (1 + prefix_len p cs) 0) e

words_blank : (c : ℕ) (cs : List ℕ) → solid c ≡ false → words (c ∷ cs) ≡ words cs
words_blank c cs e = ap (λ b. cond b (cond (starts_solid cs) (onto_first c (words cs)) ((c ∷ []) ∷ words cs)) (words cs)) e

words_on : (c : ℕ) (cs : List ℕ) → solid c ≡ true → starts_solid cs ≡ true → words (c ∷ cs) ≡ onto_first c (words cs)
words_on c cs e s =
    ap (λ b. cond b (cond (starts_solid cs) (onto_first c (words cs)) ((c ∷ []) ∷ words cs)) (words cs)) e
    ∙ ap (λ b. cond b (onto_first c (words cs)) ((c ∷ []) ∷ words cs)) s

words_end : (c : ℕ) (cs : List ℕ) → solid c ≡ true → starts_solid cs ≡ false → words (c ∷ cs) ≡ (c ∷ []) ∷ words cs
words_end c cs e s =
    ap (λ b. cond b (cond (starts_solid cs) (onto_first c (words cs)) ((c ∷ []) ∷ words cs)) (words cs)) e
    ∙ ap (λ b. cond b (onto_first c (words cs)) ((c ∷ []) ∷ words cs)) s

-- a word and what may follow it
first_word : (w u : List ℕ) → 0 < length w → AllByRecursion (λ c. solid c ≡ true) w → starts_solid u ≡ false → words (w ++ u) ≡ w ∷ words u
first_word [] u some all end = absurd (omega arith)
first_word (c ∷ []) u some all end = words_end c u all.0 end
first_word (c ∷ d ∷ w) u some all end =
    words_on c ((d ∷ w) ++ u) all.0 all.1.0 ∙ ap (onto_first c) (first_word (d ∷ w) u (omega arith) all.1 end)

-- blanks in front change nothing
pub past_blanks : (t : List ℕ) → words (drop (prefix_len blank t) t) ≡ words t
past_blanks [] = refl
past_blanks (c ∷ cs) =
    let go : (b : Bool) → blank c ≡ b → words (drop (prefix_len blank (c ∷ cs)) (c ∷ cs)) ≡ words (c ∷ cs) =
    λ b. elim b as (λ v. blank c ≡ v → words (drop (prefix_len blank (c ∷ cs)) (c ∷ cs)) ≡ words (c ∷ cs)) [
      | true ↦ λ e. ap (λ n. words (drop n (c ∷ cs))) (run_yes blank c cs e) ∙ past_blanks cs ∙ sym (words_blank c cs (ap not e))
      | false ↦ λ e. ap (λ n. words (drop n (c ∷ cs))) (run_no blank c cs e)
    ] in
    go (blank c) refl

-- what is left after the blanks begins with no blank
pub no_blank : (t : List ℕ) → prefix_len blank (drop (prefix_len blank t) t) ≡ 0
no_blank [] = refl
no_blank (c ∷ cs) =
    let go : (b : Bool) → blank c ≡ b → prefix_len blank (drop (prefix_len blank (c ∷ cs)) (c ∷ cs)) ≡ 0 =
    λ b. elim b as (λ v. blank c ≡ v → prefix_len blank (drop (prefix_len blank (c ∷ cs)) (c ∷ cs)) ≡ 0) [
      | true ↦ λ e. ap (λ n. prefix_len blank (drop n (c ∷ cs))) (run_yes blank c cs e) ∙ no_blank cs
      | false ↦ λ e. ap (λ n. prefix_len blank (drop n (c ∷ cs))) (run_no blank c cs e) ∙ run_no blank c cs e
    ] in
    go (blank c) refl

-- a text that begins with neither a blank nor anything else is empty
pub no_word : (t : List ℕ) → prefix_len blank t ≡ 0 → prefix_len solid t ≡ 0 → t ≡ []
no_word [] b s = refl
no_word (c ∷ cs) b s =
    let go : (v : Bool) → blank c ≡ v → ⊥ =
    λ v. elim v as (λ v. blank c ≡ v → ⊥) [ true ↦ λ e. omega (arith, run_yes blank c cs e) | false ↦ λ e. omega (arith, run_yes solid c cs (ap not e)) ] in
    absurd (go (blank c) refl)

starts_run : (t : List ℕ) → starts_solid t ≡ true → 0 < prefix_len solid t
starts_run [] e = absurd (both_ways false refl e)
starts_run (c ∷ cs) e = omega (arith, run_yes solid c cs e)

ends_run : (t : List ℕ) → starts_solid t ≡ false → prefix_len solid t ≡ 0
ends_run [] e = refl
ends_run (c ∷ cs) e = run_no solid c cs e

first_of_run : (p : ℕ → Bool) (c : ℕ) (cs : List ℕ) → 0 < prefix_len p (c ∷ cs) → (b : Bool) → p c ≡ b → p c ≡ true
first_of_run p c cs h true e = e
first_of_run p c cs h false e = absurd (omega (arith, run_no p c cs e))

-- a run of characters that are no blanks is the first word
pub run_is_word : (t : List ℕ) → 0 < prefix_len solid t → words t ≡ take (prefix_len solid t) t ∷ words (drop (prefix_len solid t) t)
run_is_word [] h = absurd (omega arith)
run_is_word (c ∷ cs) h =
    let yes-c : solid c ≡ true = first_of_run solid c cs h (solid c) refl in
    let more : (b : Bool) → starts_solid cs ≡ b → words (c ∷ cs) ≡ (c ∷ take (prefix_len solid cs) cs) ∷ words (drop (prefix_len solid cs) cs) =
    λ b. elim b as (λ v. starts_solid cs ≡ v → words (c ∷ cs) ≡ (c ∷ take (prefix_len solid cs) cs) ∷ words (drop (prefix_len solid cs) cs)) [
      | true ↦ λ e. words_on c cs yes-c e ∙ ap (onto_first c) (run_is_word cs (starts_run cs e))
      | false ↦ λ e. words_end c cs yes-c e ∙ ap (λ n. (c ∷ take n cs) ∷ words (drop n cs)) (sym (ends_run cs e))
    ] in
    more (starts_solid cs) refl ∙ ap (λ n. take n (c ∷ cs) ∷ words (drop n (c ∷ cs))) (sym (run_yes solid c cs yes-c))

-- one word taken from the front of t: u is what stands after the blanks
module _ (t u w rest : List ℕ) (blanks run : ℕ) (is-blanks : blanks ≡ prefix_len blank t) (past : u ≡ drop blanks t) (is-run : run ≡ prefix_len solid u) (front : w ≡ take run u) (back : rest ≡ drop run u) (long : length w ≡ run) where
  same_words : words t ≡ words u
  same_words = sym (ap words (past ∙ ap (λ n. drop n t) is-blanks) ∙ past_blanks t)

  pub none_left : length w ≡ 0 → (words t ≡ []) × (words rest ≡ [])
  none_left none =
      let starts : prefix_len blank u ≡ 0 = ap (prefix_len blank) (past ∙ ap (λ n. drop n t) is-blanks) ∙ no_blank t in
      let empty : u ≡ [] = no_word u starts (omega arith) in
      let nil : (n : ℕ) → drop n u ≡ [] = λ n. ap (drop n) empty ∙ drop_all n [] (omega arith) in
      (same_words ∙ ap words empty, ap words (back ∙ nil run))

  pub one_taken : (length w ≡ 0 → ⊥) → words t ≡ w ∷ words rest
  one_taken some =
      same_words ∙ run_is_word u (omega arith) ∙ ap (λ n. take n u ∷ words (drop n u)) (sym is-run) ∙ (λ i. sym front i ∷ words (sym back i))

and_true : (b : Bool) → (b && true) ≡ b
and_true true = refl
and_true false = refl

and_false : (b : Bool) → (b && false) ≡ false
and_false true = refl
and_false false = refl

-- the comment, character by character
comment_on : (c : ℕ) (cs : List ℕ) → code c ≡ true → before_comment (c ∷ cs) ≡ c ∷ before_comment cs
comment_on c cs e = ap (λ n. take n (c ∷ cs)) (run_yes code c cs e)

comment_from : (c : ℕ) (cs : List ℕ) → code c ≡ false → before_comment (c ∷ cs) ≡ []
comment_from c cs e = ap (λ n. take n (c ∷ cs)) (run_no code c cs e)

blank_is_code : (c : ℕ) → blank c ≡ true → (code c ≡ true) × (solid c ≡ false)
blank_is_code c e = (grind (arith, nat_tests), ap not e)

outside : (c : ℕ) → code c ≡ false → in_word c ≡ false
outside c e = ap (λ x. solid c && x) e ∙ and_false (solid c)

blank_outside : (c : ℕ) → blank c ≡ true → in_word c ≡ false
blank_outside c e = ap (λ x. not x && code c) e

both_of : (c : ℕ) → solid c ≡ true → code c ≡ true → in_word c ≡ true
both_of c s y = ap (λ x. x && code c) s ∙ y

in_word_parts : (c : ℕ) → in_word c ≡ true → (solid c ≡ true) × (code c ≡ true)
in_word_parts c h = and_parts (solid c) (code c) h

-- a character of a word in front of a line that begins with one
longer : (c : ℕ) {t : List ℕ} {ws : List (List ℕ)} → in_word c ≡ true → (Ends t → ⊥) → Laid t ws → Laid (c ∷ t) (onto_first c ws)
longer c h starts nothing = absurd (starts tt)
longer c h starts (comment {c = d} e) = absurd (starts (outside d e))
longer c h starts (gap {c = d} b l) = absurd (starts (blank_outside d b))
longer c h starts (word some end l split) = word (omega (arith, some.0), (h, some.1)) end l (ap (λ x. c ∷ x) split)

not_solid : (line : List ℕ) → Ends line → starts_solid (before_comment line) ≡ false
not_solid [] end = refl
not_solid (c ∷ cs) end =
    let go : (b : Bool) → code c ≡ b → starts_solid (before_comment (c ∷ cs)) ≡ false =
    λ b. elim b as (λ v. code c ≡ v → starts_solid (before_comment (c ∷ cs)) ≡ false) [
      | true ↦ λ e. ap starts_solid (comment_on c cs e) ∙ sym (and_true (solid c)) ∙ ap (λ x. solid c && x) (sym e) ∙ end
      | false ↦ λ e. ap starts_solid (comment_from c cs e)
    ] in
    go (code c) refl

ends_there : (line : List ℕ) → starts_solid (before_comment line) ≡ false → Ends line
ends_there [] e = tt
ends_there (c ∷ cs) e =
    let go : (b : Bool) → code c ≡ b → in_word c ≡ false =
    λ b. elim b as (λ v. code c ≡ v → in_word c ≡ false) [
      | true ↦ λ y. ap (λ x. solid c && x) y ∙ and_true (solid c) ∙ ap starts_solid (sym (comment_on c cs y)) ∙ e
      | false ↦ λ n. outside c n
    ] in
    go (code c) refl

starts_there : (line : List ℕ) → starts_solid (before_comment line) ≡ true → Ends line → ⊥
starts_there line e end = both_ways _ (not_solid line end) e

module _ (c : ℕ) (cs : List ℕ) (rest : Laid cs (line_words cs)) where
  by_next : code c ≡ true → solid c ≡ true → (b : Bool) → starts_solid (before_comment cs) ≡ b → Laid (c ∷ cs) (line_words (c ∷ cs))
  by_next y s true e =
      subst (Laid (c ∷ cs)) (sym (ap words (comment_on c cs y) ∙ words_on c (before_comment cs) s e)) (longer c (both_of c s y) (starts_there cs e) rest)
  by_next y s false e =
      subst (Laid (c ∷ cs)) (sym (ap words (comment_on c cs y) ∙ words_end c (before_comment cs) s e)) (word (omega arith, (both_of c s y, tt)) (ends_there cs e) rest refl)

  by_solid : code c ≡ true → (b : Bool) → solid c ≡ b → Laid (c ∷ cs) (line_words (c ∷ cs))
  by_solid y true s = by_next y s (starts_solid (before_comment cs)) refl
  by_solid y false s =
      subst (Laid (c ∷ cs)) (sym (ap words (comment_on c cs y) ∙ words_blank c (before_comment cs) s)) (gap (not-false (blank c) s) rest)

  by_code : (b : Bool) → code c ≡ b → Laid (c ∷ cs) (line_words (c ∷ cs))
  by_code true y = by_solid y (solid c) refl
  by_code false n = subst (Laid (c ∷ cs)) (sym (ap words (comment_from c cs n))) (comment n)

-- every line is laid out from the words that it is read as
laid : (line : List ℕ) → Laid line (line_words line)
laid [] = nothing
laid (c ∷ cs) = by_code c cs (laid cs) (code c) refl

-- a word in front of a line, up to the comment
word_before : (w t : List ℕ) → AllByRecursion (λ c. in_word c ≡ true) w → before_comment (w ++ t) ≡ w ++ before_comment t
word_before [] t all = refl
word_before (c ∷ w) t all = comment_on c (w ++ t) (in_word_parts c all.0).1 ∙ ap (λ l. c ∷ l) (word_before w t all.1)

all_solid : (w : List ℕ) → AllByRecursion (λ c. in_word c ≡ true) w → AllByRecursion (λ c. solid c ≡ true) w
all_solid [] all = tt
all_solid (c ∷ w) all = ((in_word_parts c all.0).0, all_solid w all.1)

-- and from no others
alone : {line : List ℕ} {ws : List (List ℕ)} → Laid line ws → line_words line ≡ ws
alone nothing = refl
alone (comment {c} {t} e) = ap words (comment_from c t e)
alone (gap {c} {t} b l) =
    ap words (comment_on c t (blank_is_code c b).0) ∙ words_blank c (before_comment t) (blank_is_code c b).1 ∙ alone l
alone (word {line} {w} {t} some end l split) =
    ap line_words split ∙ ap words (word_before w t some.1) ∙ first_word w (before_comment t) some.0 (all_solid w some.1) (not_solid t end) ∙ ap (λ v. w ∷ v) (alone l)

spaced_laid : (ws : List (List ℕ)) → AllByRecursion Word ws → Laid (spaced ws) ws
spaced_laid [] all = nothing
spaced_laid (w ∷ []) all = word all.0 tt nothing (sym (append-nil w))
spaced_laid (w ∷ v ∷ ws) all = word all.0 refl (gap refl (spaced_laid (v ∷ ws) all.1)) refl

pub one_reading : OneReading
one_reading = record { laid = laid; alone = λ line ws l. alone l; joined = λ ws all. alone (spaced_laid ws all) }
