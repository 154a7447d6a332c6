use Rattle.std.proofs.Common.{◌≡◌, ◌+◌, ◌<◌, length, sym, refl, ◌∙◌, subst, arith}
use Rattle.std.proofs.lemmas.Bool.Decides.{not_from_Decides}
use Rattle.book.proofs.Facts.{becomes_pushed}
use Rattle.tape.specs.Layout.{RoomIn}
use Rattle.tape.specs.Facts.{size_is}
use Rattle.tape.specs.Books.{meaning_of}
use Rattle.tape.proofs.Steps.{marked_book, book_fits}
use Rattle.tape.proofs.tape_book.methods.TapeBookBook.mark.Goals as goal

pub put_pair-requires : goal.put_pair-requires
put_pair-requires c =
    let b = c.args.self.now in
    let fits = book_fits b in
    omega (arith, size_is b.memory.now, b.within)

pub overflow_add-size : goal.overflow_add-size
overflow_add-size c =
    let b = c.args.self.now in
    let fits = book_fits b in
    let small : c.size-size.result + 1 < 65536 = omega (arith, size_is b.memory.now, b.within) in
    omega arith

pub invariant_of-self : goal.invariant_of-self
invariant_of-self c =
    let b = c.args.self.now in
    let m0 = b.memory.now in
    let m1 = c.put_pair.new.m in
    let m2 = c.put_word.new.m in
    let long1 : length m1 ≡ length m0 = omega arith in
    let long2 : length m2 ≡ length m0 = omega arith in
    let new = not_from_Decides c.has.result c.has.ensures c.if-has.false in
    let done = marked_book b m1 m2 c.start.result c.size-size.result c.args.epoch c.args.nonce.now c.start.ensures (c.size-size.ensures ∙ size_is m0) c.if-size-self.false long1 long2
    c.put_pair.ensures.there c.put_pair.ensures.others c.put_word.ensures.there c.put_word.ensures.others c.put_word.ensures.bytes new in
    record { room = subst (λ k. RoomIn k b.capacity) (sym long2) b.room; within = done.1.within; apart = done.1.apart; laid = done.1.laid }

pub returns : goal.returns
returns c =
    let b = c.args.self.now in
    let m0 = b.memory.now in
    let m1 = c.put_pair.new.m in
    let m2 = c.put_word.new.m in
    let long1 : length m1 ≡ length m0 = omega arith in
    let long2 : length m2 ≡ length m0 = omega arith in
    let new = not_from_Decides c.has.result c.has.ensures c.if-has.false in
    let done = marked_book b m1 m2 c.start.result c.size-size.result c.args.epoch c.args.nonce.now c.start.ensures (c.size-size.ensures ∙ size_is m0) c.if-size-self.false long1 long2
    c.put_pair.ensures.there c.put_pair.ensures.others c.put_word.ensures.there c.put_word.ensures.others c.put_word.ensures.bytes new in
    record {
      meaning = (new, omega (arith, size_is m0, b.within), becomes_pushed (meaning_of b) _ (c.args.epoch, c.args.nonce.now) done.0 refl);
      image = done.2;
      lender = refl;
    }
