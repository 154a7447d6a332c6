use Rattle.std.proofs.Common.{ℕ, List, length, refl, ap}
use Rattle.book.specs.Meaning.{Pair}
use Rattle.chains.specs.Chains.{Sound}
use Rattle.chained.specs.Layout.{table_of}
use Rattle.chained.specs.Facts.{room_fits}
use Rattle.chained.specs.Books.{sound_in}
use Rattle.chained.proofs.Images.{one_image}
use Rattle.chained.proofs.Books.{after_image, mark_sound, mark_means, mark_image}
use Rattle.chained.proofs.chained_book.methods.ChainedBookBook.mark.Goals as goal

pub invariant_of-self : goal.invariant_of-self
invariant_of-self c =
    let b = c.args.self.now in
    let p : Pair = (c.args.epoch, c.args.nonce.now) in
    let u = c.mark.new.records in
    let v = table_of u.capacity u.memory.now in
    let sound : Sound v = (mark_sound (table_of b.rows.capacity b.rows.memory.now) p c.mark.result v (sound_in b) c.told-nonce c.mark.ensures.table).0 in
    record {
      shaped = sound.0;
      ended = sound.1;
      within = sound.2;
      placed = sound.3;
      unfree = sound.4;
      epochless = sound.5.0;
      nonceless = sound.5.1;
      counted = sound.6;
      apart = sound.7;
    }

pub returns : goal.returns
returns c =
    let b = c.args.self.now in
    let r = b.rows in
    let cap = r.capacity in
    let p : Pair = (c.args.epoch, c.args.nonce.now) in
    let m = r.memory.now in
    let u = c.mark.new.records in
    let said = c.mark.result in
    let t = table_of cap m in
    let v = table_of u.capacity u.memory.now in
    let marks = c.mark.ensures.table in
    let s : Sound t = sound_in b in
    let d = mark_sound t p said v s c.told-nonce marks in
    record {
      meaning = mark_means _ _ t v p said s c.told-nonce marks refl refl refl d.1;
      image = mark_image cap m u.memory.now p said v (one_image cap m (room_fits (length m) cap r.room).2 r.bytes)
          (after_image cap u.capacity m u.memory.now v u.room u.bytes refl d.1 (ap (λ (x : ℕ × List ℕ). x.1) c.mark.ensures.beside)) marks;
      lender = ap (λ (x : ℕ × List ℕ). x.0) c.mark.ensures.beside;
    }
