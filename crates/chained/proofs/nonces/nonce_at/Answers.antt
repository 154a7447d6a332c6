use Rattle.std.proofs.Common.{◌≡◌, ℕ, ◌+◌, ◌-◌, ◌*◌, ◌%◌, ◌^◌, true, false, cond, eqb, List, [], ◌∷◌, map, length, take, drop, Decides, sym, refl, ap, ◌∙◌, ⊎_elim, arith, w8}
use native.Mathlib.Nat.{pow-succ'}
use mir.Val.{bits, hbits}
use lib.Lanes.{mask_l, top, zip2}
use Rattle.std.proofs.lemmas.Bool.{cases_eq, eq-eqb, ne_eqb, eqb-true}
use Rattle.std.proofs.lemmas.Simd.{tops_compared, mask_l-mod, length-zip2}
use Rattle.std.proofs.lemmas.List.{take_all, take-take}
use Rattle.chained.proofs.Frames.{length_nonce}
use Rattle.chained.proofs.nonces.nonce_at.Goals as goal

-- every bit of the mask is set where the lists are the same, and only there
full_same : (xs ys : List ℕ) → length xs ≡ length ys → mask_l (zip2 eqb xs ys) + 1 ≡ 2 ^ length xs → xs ≡ ys
full_same [] [] l e = refl
full_same [] (y ∷ ys) l e = absurd (omega arith)
full_same (x ∷ xs) [] l e = absurd (omega arith)
full_same (x ∷ xs) (y ∷ ys) l e =
    let p : 2 ^ length (x ∷ xs) ≡ 2 * 2 ^ length xs = pow-succ' 2 (length xs) in
    ⊎_elim
    (λ (q : x ≡ y).
    let f : cond true 1 0 + 2 * mask_l (zip2 eqb xs ys) + 1 ≡ 2 ^ length (x ∷ xs) = ap (λ b. cond b 1 0 + 2 * mask_l (zip2 eqb xs ys) + 1) (sym (eq-eqb x y q)) ∙ e in
    let r = full_same xs ys (omega arith) (omega arith) in
    ap (λ z. z ∷ xs) q ∙ ap (λ zs. y ∷ zs) r)
    (λ (q : x ≡ y → ⊥).
    let f : cond false 1 0 + 2 * mask_l (zip2 eqb xs ys) + 1 ≡ 2 ^ length (x ∷ xs) = ap (λ b. cond b 1 0 + 2 * mask_l (zip2 eqb xs ys) + 1) (sym (ne_eqb x y q)) ∙ e in
    absurd (omega arith))
    (cases_eq x y)

same_full : (xs : List ℕ) → mask_l (zip2 eqb xs xs) + 1 ≡ 2 ^ length xs
same_full [] = refl
same_full (x ∷ xs) =
    let p : 2 ^ length (x ∷ xs) ≡ 2 * 2 ^ length xs = pow-succ' 2 (length xs) in
    let r = same_full xs in
    ap (λ b. cond b 1 0 + 2 * mask_l (zip2 eqb xs xs) + 1) (eq-eqb x x refl) ∙ omega arith

-- what the comparison of the lanes tells
lanes_decide : (zs ws xs ys : List ℕ) → zs ≡ xs → ws ≡ ys → length xs ≡ 32 → length ys ≡ 32 → Decides (eqb (mask_l (map (top (hbits w8)) (zip2 (λ a b. cond (eqb a b) (2 ^ bits w8 - 1) 0) zs ws)) % 2 ^ 64) 4294967295) (xs ≡ ys)
lanes_decide zs ws xs ys e f lx ly =
    let lz : length zs ≡ 32 = ap length e ∙ lx in
    let lw : length ws ≡ 32 = ap length f ∙ ly in
    let long = length-zip2 eqb zs ws (lz ∙ sym lw) in
    let read = ap (λ bs. mask_l bs % 2 ^ 64) (tops_compared w8 eqb zs ws) ∙ mask_l-mod (zip2 eqb zs ws) 64 (omega arith) in
    let most : 2 ^ length zs ≡ 4294967296 = ap (λ n. 2 ^ n) lz in (
      λ t. let full = sym read ∙ eqb-true _ _ t in sym e ∙ full_same zs ws (lz ∙ sym lw) (ap (λ n. n + 1) full ∙ sym most) ∙ f,
      λ q. eq-eqb _ _ (read ∙ ap (λ us. mask_l (zip2 eqb zs us)) (f ∙ sym q ∙ sym e) ∙ (let full = same_full zs in omega arith)),
    )

pub returns : goal.returns
returns c =
    let m = c.args.m.now in
    let at = c.args.at in
    let n : (at + 32) - at ≡ 32 = omega arith in
    let stored : take 32 (take ((at + 32) - at) (drop at m)) ≡ take 32 (drop at m) = ap (λ k. take 32 (take k (drop at m))) n ∙ take-take 32 32 (drop at m) (omega arith) in
    lanes_decide _ _ (take 32 (drop at m)) c.args.nonce.now stored (take_all 32 c.args.nonce.now (omega (arith, c.told-nonce))) (length_nonce m at c.requires) c.told-nonce
