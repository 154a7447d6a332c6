-- One part after another.
use Rattle.std.proofs.Common.{◌≡◌, ℕ, List, [], ◌++◌, length, drop, sym, ap, ◌∙◌, subst, append_assoc, drop-drop, arith, length-append}
use Rattle.numbers.specs.declared.writer.Writer.{Writer}
use Rattle.numbers.specs.Writing.{put_so_far, Put}

-- two parts in a row are one
pub and_then : {a b c : Writer} {p q : List ℕ} → Put a b p → Put b c q → Put a c (p ++ q)
and_then {a} {b} {c} {p} {q} one two = record {
  lent = two.lent ∙ one.lent;
  parts = two.parts ∙ ap (λ (l : List ℕ). l ++ q) one.parts ∙ append_assoc (put_so_far a) p q;
  rest =
      let past : (l : List ℕ) → drop c.len l ≡ drop (length q) (drop b.len l) =
      λ l. ap (λ (n : ℕ). drop n l) two.len ∙ sym (drop-drop (length q) b.len l) in
      two.rest ∙ past b.bytes.now ∙ ap (drop (length q)) one.rest ∙ sym (past a.bytes.now);
  len = let e = one.len in let f = two.len in omega (arith, length-append p q);
  room = two.room ∙ one.room;
}

-- a part by its meaning
pub same_part : {a b : Writer} {p q : List ℕ} → p ≡ q → Put a b p → Put a b q
same_part {a} {b} same one = subst (λ (l : List ℕ). Put a b l) same one

-- all that was put by a writer that began with nothing
pub whole : {a b : Writer} {p : List ℕ} → put_so_far a ≡ [] → Put a b p → put_so_far b ≡ p
whole {a} {b} {p} none one = one.parts ∙ ap (λ (l : List ℕ). l ++ p) none
