use Rattle.std.proofs.Common.{◌≡◌, ℕ, ◌+◌, ◌-◌, ◌<◌, ◌≤◌, ◌⊎◌, List, length, get_or, sym, refl, ap, ◌∙◌, subst, inr, ⊎_elim, arith, rules}
use borrow.Rule.Slice.PartMut.{put_mid}
use Rattle.book.specs.Meaning.{others}
use Rattle.book.specs.Words.{word}
use Rattle.book.proofs.Facts.{becomes_others}
use Rattle.tape.specs.Layout.{RoomIn, firsts, place}
use Rattle.tape.specs.Books.{meaning_of}
use Rattle.tape.specs.Facts.{size_is}
use Rattle.book.proofs.Parts.{zeros_put}
use Rattle.tape.proofs.Steps.{drop_here, keep_here, dropped_book, book_fits}
use Rattle.tape.proofs.tape_book.methods.TapeBookBook.drop_epoch.Goals as goal
use Rattle.tape.proofs.tape_book.methods.TapeBookBook.drop_epoch.Goals.{then-word_at-epoch, else-word_at-epoch}

pub word_at-requires : goal.word_at-requires
word_at-requires c = let b = c.args.self.now in let fits = book_fits b in omega (arith, size_is b.memory.now, b.within)

pub copy_within-requires-clause-in_bounds : goal.copy_within-requires-clause-in_bounds
copy_within-requires-clause-in_bounds c = let b = c.args.self.now in let fits = book_fits b in omega (arith, size_is b.memory.now, b.within)

pub copy_within-requires-clause-dest_in_bounds : goal.copy_within-requires-clause-dest_in_bounds
copy_within-requires-clause-dest_in_bounds c =
    let b = c.args.self.now in
    let fits = book_fits b in
    let inside : c.start.result + ((c.start-from.result + 34) - c.start-from.result) ≤ length c.loop-i.memory = omega (arith, size_is b.memory.now, b.within) in
    inside

pub slice_bounds-fill-end : goal.slice_bounds-fill-end
slice_bounds-fill-end c =
    let b = c.args.self.now in
    let fits = book_fits b in
    let inside : c.start-3.result ≤ length c.loop-i.memory = omega (arith, size_is b.memory.now, b.within) in
    search rules

pub loop-i-preserved : goal.loop-i-preserved
loop-i-preserved c =
    let b = c.args.self.now in
    let m0 = b.memory.now in
    let m = c.loop-i.memory in
    let e = c.args.epoch in
    let i = c.loop-i.i in
    let stay = c.loop-i.stay in
    let n = c.size-size.result in
    let inv = c.loop-i.invariant in
    let fits = book_fits b in
    let read = c.word_at.ensures ∙ ap (word m) c.start-from.ensures in
    let long : length m ≡ length m0 = omega arith in
    let inside : place n ≤ length m0 = omega (arith, size_is m0, b.within) in
    let Goal : List ℕ → ℕ → Type 0 = λ x s. (s ≤ i + 1) × (firsts x s ≡ others e (firsts m0 (i + 1))) × ((k : ℕ) → place (i + 1) ≤ k → get_or x k 0 ≡ get_or m0 k 0) in
    let at-ways : (x : List ℕ) (s : ℕ) → c.if-word_at-epoch.memory ≡ x → c.if-word_at-epoch.stay ≡ s → Goal x s → Goal c.if-word_at-epoch.memory c.if-word_at-epoch.stay =
    λ x s p q h. subst (λ y. Goal y c.if-word_at-epoch.stay) (sym p) (subst (Goal x) (sym q) h) in
    elim c.if-word_at-epoch.branch [
      | then-word_at-epoch w ↦
          let m' = w.copy_within.new.self in
          let copied = w.copy_within.ensures.by_index in
          let long' : length m' ≡ length m0 = omega (arith, w.copy_within.ensures.len) in
          let there : (j : ℕ) → j < 34 → get_or m' (place stay + j) 0 ≡ get_or m (place i + j) 0 = λ j h.
          let to : place stay + j ≡ w.start.result + j = omega arith in
          let from : c.start-from.result + ((w.start.result + j) - w.start.result) ≡ place i + j = omega arith in
          ap (λ x. get_or m' x 0) to ∙ copied.0 (w.start.result + j) 0 (omega arith) (omega arith) ∙ ap (λ x. get_or m x 0) from in
          let outside : (k : ℕ) → (k < place stay) ⊎ (place stay + 34 ≤ k) → get_or m' k 0 ≡ get_or m k 0 = λ k s.
          ⊎_elim (λ (x : k < place stay). copied.1 k 0 (omega arith)) (λ (x : place stay + 34 ≤ k). copied.2 k 0 (omega arith)) s in
          let k : firsts m' (stay + 1) ≡ others e (firsts m0 (i + 1)) =
          keep_here m0 m m' e i stay n (omega arith) inside long long' inv.0 inv.1 inv.2 (λ q. w.if-word_at-epoch.true (read ∙ q)) there outside in
          at-ways m' (stay + 1) w.memory-is w.stay-is (omega arith, k, λ j h. outside j (inr (omega arith)) ∙ inv.2 j (omega arith))
      | else-word_at-epoch w ↦
          at-ways m stay w.memory-is w.stay-is (omega arith, drop_here m0 m m e i stay n (omega arith) inside long long inv.0 inv.1 inv.2 (sym read ∙ w.if-word_at-epoch.false), λ j h. inv.2 j (omega arith))
    ]

pub invariant_of-self : goal.invariant_of-self
invariant_of-self c =
    let b = c.args.self.now in
    let m0 = b.memory.now in
    let m = c.loop-i.memory in
    let m2 = c.put_word.new.m in
    let e = c.args.epoch in
    let n = c.size-size.result in
    let stay = c.loop-i.stay in
    let from = c.start-2.result in
    let to = c.start-3.result in
    let m1 : List ℕ = put_mid from (to - from) m c.fill.new.self in
    let inv = c.loop-i.invariant in
    let end : c.loop-i.i ≡ n = omega arith in
    let fits = book_fits b in
    let long2 : length m2 ≡ length m0 = omega arith in
    let behind : stay ≤ n = omega arith in
    let cleared = zeros_put m c.fill.new.self from to (omega arith) (omega (arith, size_is m0, b.within)) (c.fill.ensures.after (λ _ x. x)) in
    let done = dropped_book b m m1 m2 e stay n from to c.start-2.ensures c.start-3.ensures (c.size-size.ensures ∙ size_is m0) (omega arith) long2 behind
    (inv.1 ∙ ap (λ x. others e (firsts m0 x)) end) (λ k h. inv.2 k (omega arith)) cleared.zeros cleared.others
    c.put_word.ensures.there c.put_word.ensures.others c.put_word.ensures.bytes in
    record { room = subst (λ k. RoomIn k b.capacity) (sym long2) b.room; within = done.1.within; apart = done.1.apart; laid = done.1.laid }

pub returns : goal.returns
returns c =
    let b = c.args.self.now in
    let m0 = b.memory.now in
    let m = c.loop-i.memory in
    let m2 = c.put_word.new.m in
    let e = c.args.epoch in
    let n = c.size-size.result in
    let stay = c.loop-i.stay in
    let from = c.start-2.result in
    let to = c.start-3.result in
    let m1 : List ℕ = put_mid from (to - from) m c.fill.new.self in
    let inv = c.loop-i.invariant in
    let end : c.loop-i.i ≡ n = omega arith in
    let fits = book_fits b in
    let long2 : length m2 ≡ length m0 = omega arith in
    let behind : stay ≤ n = omega arith in
    let cleared = zeros_put m c.fill.new.self from to (omega arith) (omega (arith, size_is m0, b.within)) (c.fill.ensures.after (λ _ x. x)) in
    let done = dropped_book b m m1 m2 e stay n from to c.start-2.ensures c.start-3.ensures (c.size-size.ensures ∙ size_is m0) (omega arith) long2 behind
    (inv.1 ∙ ap (λ x. others e (firsts m0 x)) end) (λ k h. inv.2 k (omega arith)) cleared.zeros cleared.others
    c.put_word.ensures.there c.put_word.ensures.others c.put_word.ensures.bytes in
    record {
      meaning = (becomes_others (meaning_of b) _ e done.0 refl, omega (arith, size_is m0, size_is m2, c.size-size.ensures, c.put_word.ensures.there));
      image = done.2;
      lender = refl;
    }
