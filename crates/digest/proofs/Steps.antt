-- One step more of the message schedule and of the rounds, as a loop at `n + 1` has it.
use Rattle.std.proofs.Common.{◌≡◌, ℕ, ◌+◌, ◌<◌, List, [], ◌∷◌, ◌++◌, get_or, take, sym, ap, ◌∙◌, add-one, arith}
use Rattle.std.proofs.lemmas.List.{get_or-take}
use Rattle.digest.specs.declared.compress.Working.{Working}
use Rattle.digest.specs.Constants.{round_constants}
use Rattle.digest.specs.Sha256.{next_word, grown, stepped, rounds}

pub rounds_more : (w : List ℕ) (n : ℕ) (v : Working)
    → rounds w (n + 1) v ≡ stepped (rounds w n v) (get_or round_constants n 0) (get_or w n 0)
unfolding rounds
rounds_more w n v = rw add-one

pub grown_more : (block : List ℕ) (n : ℕ) → grown block (n + 1) ≡ grown block n ++ next_word (grown block n) n ∷ []
unfolding grown
grown_more block n = ap (λ (k : ℕ). grown block k) (add-one n)

-- the next word, read off a list of which the first n + 16 words are known
pub next_of : (w g : List ℕ) (n : ℕ) → take (n + 16) w ≡ g → next_word w n ≡ next_word g n
next_of w g n e =
    let at : (i : ℕ) → i < 16 → get_or w (n + i) 0 ≡ get_or g (n + i) 0 = λ i h.
    let k : n + i < n + 16 = omega arith in
    sym (get_or-take (n + 16) w (n + i) 0 k) ∙ ap (λ (l : List ℕ). get_or l (n + i) 0) e in
    let at0 : get_or w n 0 ≡ get_or g n 0 =
    sym (get_or-take (n + 16) w n 0 (omega arith)) ∙ ap (λ (l : List ℕ). get_or l n 0) e in
    let e14 = at 14 (omega arith) in
    let e9 = at 9 (omega arith) in
    let e1 = at 1 (omega arith) in
    rw (e14, e9, e1, at0)

-- a round on the working variables after the first n rounds gives those after one more
pub round_at : {v r : Working} (w : List ℕ) (start : Working) (n : ℕ) → v ≡ rounds w n start
    → r ≡ stepped v (get_or round_constants n 0) (get_or w n 0) → (m : ℕ) → m ≡ n + 1 → r ≡ rounds w m start
round_at w start n was is m more =
    is ∙ ap (λ (u : Working). stepped u (get_or round_constants n 0) (get_or w n 0)) was
    ∙ sym (rounds_more w n start) ∙ ap (λ (k : ℕ). rounds w k start) (sym more)
