use Rattle.std.proofs.Common.{ℕ, List, length, sym, ap, ◌∙◌, subst}
use Rattle.book.proofs.Facts.{becomes_empty}
use Rattle.chains.specs.Tables.{Table, cleared}
use Rattle.chains.specs.Chains.{pairs, Sound}
use Rattle.chains.proofs.Meanings.{cleared_chains}
use Rattle.chained.specs.Layout.{table_of, image, later}
use Rattle.chained.specs.Facts.{some_places, places_is}
use Rattle.chained.proofs.Books.{after_image, cleared_long}
use Rattle.chained.proofs.chained_book.methods.ChainedBookBook.clear.Goals as goal

pub invariant_of-self : goal.invariant_of-self
invariant_of-self c =
    let r = c.args.self.now.rows in
    let m = r.memory.now in
    let u = c.clear.new.records in
    let some = some_places r.capacity (length m) m r.room in
    let sound : Sound (table_of u.capacity u.memory.now) = subst Sound (sym c.clear.ensures.table) (cleared_chains (length (table_of r.capacity m).entries) some).sound in
    record {
      shaped = sound.0;
      ended = sound.1;
      within = sound.2;
      placed = sound.3;
      unfree = sound.4;
      epochless = sound.5.0;
      nonceless = sound.5.1;
      counted = sound.6;
      apart = sound.7;
    }

pub returns : goal.returns
returns c =
    let r = c.args.self.now.rows in
    let cap = r.capacity in
    let m = r.memory.now in
    let u = c.clear.new.records in
    let n = length (table_of cap m).entries in
    let is = c.clear.ensures.table in
    let some = some_places cap (length m) m r.room in
    record {
      meaning = becomes_empty _ _ (ap pairs is ∙ (cleared_chains n some).pairs_left) (ap (λ (t : Table). length t.entries) is ∙ cleared_long n);
      image = after_image cap u.capacity m u.memory.now (cleared n) u.room u.bytes is (cleared_long n) (ap (λ (x : ℕ × List ℕ). x.1) c.clear.ensures.beside)
          ∙ ap (λ k. image (cleared k) (later m cap)) (places_is cap m);
      lender = ap (λ (x : ℕ × List ℕ). x.0) c.clear.ensures.beside;
    }
