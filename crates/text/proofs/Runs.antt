-- Runs: the characters of one kind that a text begins with. Assumes nothing.
use Rattle.std.proofs.Common.{◌≡◌, ℕ, zero, suc, ◌+◌, ◌<◌, Bool, true, false, cond, List, [], ◌∷◌, length, get_or, take, refl, ap, ◌∙◌, one-add, arith}
use Rattle.std.specs.List.{prefix_len}

-- the first of a run, and the rest of it
pub run_parts : (p : ℕ → Bool) (c : ℕ) (cs : List ℕ) → prefix_len p (c ∷ cs) ≡ length (c ∷ cs) → (p c ≡ true) × (prefix_len p cs ≡ length cs)
run_parts p c cs h =
    let go : (b : Bool) → cond b (1 + prefix_len p cs) 0 ≡ suc (length cs) → (b ≡ true) × (prefix_len p cs ≡ length cs) =
    λ b. elim b as (λ v. cond v (1 + prefix_len p cs) 0 ≡ suc (length cs) → (v ≡ true) × (prefix_len p cs ≡ length cs)) [ true ↦ λ e. (refl, omega arith) | false ↦ λ e. absurd (omega arith) ] in
    go (p c) h

-- one character more in front of a run
pub run_of : (p : ℕ → Bool) (c : ℕ) (cs : List ℕ) → p c ≡ true → prefix_len p cs ≡ length cs → prefix_len p (c ∷ cs) ≡ length (c ∷ cs)
run_of p c cs yes-c all = ap (λ b. cond b (1 + prefix_len p cs) 0) yes-c ∙ omega arith

-- the front of a text up to its first other character is a run
pub front : (p : ℕ → Bool) (t : List ℕ) → prefix_len p (take (prefix_len p t) t) ≡ length (take (prefix_len p t) t)
front p [] = refl
front p (c ∷ cs) =
    let go : (b : Bool) → p c ≡ b → prefix_len p (take (cond b (1 + prefix_len p cs) 0) (c ∷ cs)) ≡ length (take (cond b (1 + prefix_len p cs) 0) (c ∷ cs)) =
    λ b. elim b as (λ v. p c ≡ v → prefix_len p (take (cond v (1 + prefix_len p cs) 0) (c ∷ cs)) ≡ length (take (cond v (1 + prefix_len p cs) 0) (c ∷ cs))) [ true ↦ λ e. rw one-add (run_of p c (take (prefix_len p cs) cs) e (front p cs)) | false ↦ λ e. refl ] in
    go (p c) refl

-- at that character the run stops
pub stops : (p : ℕ → Bool) (t : List ℕ) → prefix_len p t < length t → p (get_or t (prefix_len p t) 0) ≡ false
stops p [] h = absurd (omega arith)
stops p (c ∷ cs) h =
    let go : (b : Bool) → p c ≡ b → cond b (1 + prefix_len p cs) 0 < suc (length cs) → p (get_or (c ∷ cs) (cond b (1 + prefix_len p cs) 0) 0) ≡ false =
    λ b. elim b as (λ v. p c ≡ v → cond v (1 + prefix_len p cs) 0 < suc (length cs) → p (get_or (c ∷ cs) (cond v (1 + prefix_len p cs) 0) 0) ≡ false) [ true ↦ λ e l. rw one-add (stops p cs (omega arith)) | false ↦ λ e l. e ] in
    go (p c) refl h

-- each character of a run is of its kind
pub in_run : (p : ℕ → Bool) (t : List ℕ) → prefix_len p t ≡ length t → (k : ℕ) → k < length t → p (get_or t k 0) ≡ true
in_run p [] run k h = absurd (omega arith)
in_run p (c ∷ cs) run zero h = (run_parts p c cs run).0
in_run p (c ∷ cs) run (suc k) h = in_run p cs (run_parts p c cs run).1 k (omega arith)
