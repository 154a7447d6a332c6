-- What the `map` of an array gives.
use Rattle.std.proofs.Common.{◌≡◌, ℕ, suc, ◌<◌, List, [], ◌∷◌, map, length, get_or, sym, refl, ap, ◌∙◌, subst, arith}
use Rattle.std.specs.Array.{IsMapOf}
use Rattle.std.specs.Fn.{Called}
use denote.Param.Members.{Mut}

-- a list whose elements are those of another under h
same_at : {A B : Type 0} (h : A → B) (xs : List A) (ys : List B) (d : A) (e : B) → length ys ≡ length xs
    → ((i : ℕ) → i < length xs → get_or ys i e ≡ h (get_or xs i d)) → ys ≡ map h xs
same_at h [] [] d e long at = refl
same_at h [] (y ∷ ys) d e long at = absurd (omega arith)
same_at h (x ∷ xs) [] d e long at = absurd (omega arith)
same_at {A} {B} h (x ∷ xs) (y ∷ ys) d e long at =
    ap (λ (z : B). z ∷ ys) (at 0 (omega arith))
    ∙ ap (λ (zs : List B). h x ∷ zs) (same_at h xs ys d e (omega arith) (λ i k. at (suc i) (omega arith)))

-- where each call answers what h gives
pub mapped : {F A B : Type 0} (g : Mut F (A × Unit {0}) B) (h : A → B) → ((x : A) (y : B) (p q : F) → Called g p (x, tt) y q → y ≡ h x)
    → (f : F) (xs : List A) (ys : List B) (n : ℕ) (d : A) (e : B) → length xs ≡ n → IsMapOf g f xs ys n → ys ≡ map h xs
mapped {F} {A} {B} g h each f xs ys n d e long is =
    same_at h xs ys d e (is.long ∙ sym long)
    (λ i k. let called = is.at i d e (subst (λ (m : ℕ). i < m) long k) in each (get_or xs i d) (get_or ys i e) called.0 called.1 called.2)
