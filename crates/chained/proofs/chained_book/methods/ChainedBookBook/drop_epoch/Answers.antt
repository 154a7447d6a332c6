use Rattle.std.proofs.Common.{ℕ, List, length, sym, ap, ◌∙◌, subst}
use Rattle.book.proofs.Facts.{becomes_others}
use Rattle.chains.specs.Tables.{Table, dropped}
use Rattle.chains.specs.Chains.{pairs, Sound}
use Rattle.chains.proofs.Meanings.{dropped_chains}
use Rattle.chained.specs.Layout.{table_of}
use Rattle.chained.specs.Books.{sound_in}
use Rattle.chained.proofs.Books.{after_image, dropped_size}
use Rattle.chained.proofs.chained_book.methods.ChainedBookBook.drop_epoch.Goals as goal

pub invariant_of-self : goal.invariant_of-self
invariant_of-self c =
    let b = c.args.self.now in
    let u = c.drop_epoch.new.records in
    let d = dropped_chains c.args.epoch (table_of b.rows.capacity b.rows.memory.now) (sound_in b) in
    let sound : Sound (table_of u.capacity u.memory.now) = subst Sound (sym c.drop_epoch.ensures.table) d.sound in
    record {
      shaped = sound.0;
      ended = sound.1;
      within = sound.2;
      placed = sound.3;
      unfree = sound.4;
      epochless = sound.5.0;
      nonceless = sound.5.1;
      counted = sound.6;
      apart = sound.7;
    }

pub returns : goal.returns
returns c =
    let b = c.args.self.now in
    let r = b.rows in
    let cap = r.capacity in
    let e = c.args.epoch in
    let m = r.memory.now in
    let u = c.drop_epoch.new.records in
    let t = table_of cap m in
    let is = c.drop_epoch.ensures.table in
    let s : Sound t = sound_in b in
    let d = dropped_chains e t s in
    record {
      meaning = (
        becomes_others _ _ e (ap pairs is ∙ d.pairs_left) (ap (λ (v : Table). length v.entries) is ∙ d.places),
        dropped_size e t (table_of u.capacity u.memory.now) c.drop_epoch.result s is c.drop_epoch.ensures.count,
      );
      image = after_image cap u.capacity m u.memory.now (dropped e t) u.room u.bytes is d.places (ap (λ (x : ℕ × List ℕ). x.1) c.drop_epoch.ensures.beside);
      lender = ap (λ (x : ℕ × List ℕ). x.0) c.drop_epoch.ensures.beside;
    }
