-- A list of which a part was written: what stands in the part, and what outside it. Assumes nothing.
use Rattle.std.proofs.Common.{◌≡◌, ℕ, ◌+◌, ◌-◌, ◌<◌, ◌≤◌, ◌⊎◌, List, length, get_or, take, drop, replicate, ap, ◌∙◌, inl, inr, ⊎_elim, arith, rules}
use borrow.Rule.Slice.PartMut.{put_mid}
use Rattle.std.proofs.lemmas.List.{places, length-take-le, length-drop, length-replicate, get_or-replicate}

pub put_outside : (m ys : List ℕ) (a k j : ℕ) → a + k ≤ length m → length ys ≡ k → (j < a) ⊎ (a + k ≤ j) → get_or (put_mid a k m ys) j 0 ≡ get_or m j 0
put_outside m ys a k j h l (inl lt) = search (rules, places)
put_outside m ys a k j h l (inr le) = search (rules, places)

pub put_inside : (m ys : List ℕ) (a k j : ℕ) → a + k ≤ length m → length ys ≡ k → a ≤ j → j < a + k → get_or (put_mid a k m ys) j 0 ≡ get_or ys (j - a) 0
put_inside m ys a k j h l lo hi = search (rules, places)

pub put_length : (m ys : List ℕ) (a k : ℕ) → a + k ≤ length m → length ys ≡ k → length (put_mid a k m ys) ≡ length m
put_length m ys a k h l = search (rules, places)

-- zeros in a part
pub record Zeroed (m n : List ℕ) (from to : ℕ) : Type 0 where
  pub zeros : (k : ℕ) → from ≤ k → k < to → get_or n k 0 ≡ 0
  pub others : (k : ℕ) → (k < from) ⊎ (to ≤ k) → get_or n k 0 ≡ get_or m k 0
  pub long : length n ≡ length m

pub zeros_put : (m ys : List ℕ) (from to : ℕ) → from ≤ to → to ≤ length m → ys ≡ replicate (length (take (to - from) (drop from m))) 0
    → Zeroed m (put_mid from (to - from) m ys) from to
zeros_put m ys from to low high is =
    let n = length (take (to - from) (drop from m)) in
    let n-is : n ≡ to - from = length-take-le (to - from) (drop from m) (omega (arith, length-drop from m)) in
    let fits : from + (to - from) ≤ length m = omega arith in
    let l : length ys ≡ to - from = ap length is ∙ length-replicate n 0 ∙ n-is in
    record {
      zeros = λ k lo hi. put_inside m ys from (to - from) k fits l lo (omega arith) ∙ ap (λ zs. get_or zs (k - from) 0) is ∙ get_or-replicate n (k - from) 0 0 (omega arith);
      others = λ k s. put_outside m ys from (to - from) k fits l (⊎_elim (λ (b : k < from). inl b) (λ (b : to ≤ k). inr (omega arith)) s);
      long = put_length m ys from (to - from) fits l;
    }
