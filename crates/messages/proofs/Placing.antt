-- Codes in a row: where the code of each item begins and ends.
use Rattle.std.proofs.Common.{◌≡◌, ℕ, ◌+◌, ◌-◌, ◌*◌, ◌/◌, ◌<◌, ◌≤◌, cond, List, length, take, drop, Some, None, sym, ap, ◌∙◌, subst, mul-le-mul_right, suc-mul, mul_comm, arith}
use native.Mathlib.Nat.{mod-add-div, add-sub_cancel_left}
use Rattle.std.proofs.lemmas.Bool.{lt-ltb, le-ltb}
use Rattle.group.specs.Model.{Model}
use Rattle.messages.specs.Messages.{item_at}

-- a code that begins before the last whole one ends within the bytes
pub item_ends : (i w len : ℕ) → i < len / w → i * w + w ≤ len
item_ends i w len h = omega (arith, mul-le-mul_right w h, suc-mul i w, mod-add-div len w, mul_comm w (len / w))

module _ {E S K : Type 0} (m : Model E S K) (items : List ℕ) (i w : ℕ) (width : w ≡ m.element_width) where
  pub no_item : length items / w ≤ i → None ≡ item_at m items i
  unfolding item_at
  no_item h =
      sym (ap (λ b. cond b (Some (take m.element_width (drop (i * m.element_width) items))) None)
      (le-ltb i (length items / m.element_width) (subst (λ (x : ℕ). length items / x ≤ i) width h)))

  pub one_item : i < length items / w → Some (take (i * w + w - i * w) (drop (i * w) items)) ≡ item_at m items i
  unfolding item_at
  one_item h =
      ap (λ (k : ℕ). Some (take k (drop (i * w) items))) (add-sub_cancel_left (i * w) w) ∙ ap (λ (x : ℕ). Some (take x (drop (i * x) items))) width ∙
      sym (ap (λ b. cond b (Some (take m.element_width (drop (i * m.element_width) items))) None)
      (lt-ltb i (length items / m.element_width) (subst (λ (x : ℕ). i < length items / x) width h)))
