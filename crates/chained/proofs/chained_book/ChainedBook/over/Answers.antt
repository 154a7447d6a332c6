use Rattle.std.proofs.Common.{ℕ, List, length, sym, ap, ◌∙◌, subst}
use Rattle.chains.specs.Tables.{cleared}
use Rattle.chains.specs.Chains.{pairs, Sound}
use Rattle.chains.proofs.Meanings.{cleared_chains}
use Rattle.chained.specs.Layout.{RoomIn, table_of, image, later}
use Rattle.chained.specs.Facts.{room_fits, some_places, places_is}
use Rattle.chained.proofs.Books.{after_capacity, after_image, cleared_long, room_of}
use Rattle.chained.proofs.chained_book.ChainedBook.over.Goals as goal

pub wipe-requires : goal.wipe-requires
wipe-requires c = (room_fits (length c.args.memory.now) c.args.capacity (room_of (length c.args.memory.now) c.args.capacity c.requires)).2

pub invariant_of-rows : goal.invariant_of-rows
invariant_of-rows c = record {
  room = subst (λ n. RoomIn n c.args.capacity) (sym c.wipe.auto.m) (room_of (length c.args.memory.now) c.args.capacity c.requires);
  bytes = c.wipe.ensures.bytes;
}

pub invariant_of-result : goal.invariant_of-result
invariant_of-result c =
    let cap = c.args.capacity in
    let m = c.wipe.new.m in
    let u = c.clear.new.records in
    let some = some_places cap (length c.args.memory.now) m (room_of (length c.args.memory.now) cap c.requires) in
    let sound : Sound (table_of u.capacity u.memory.now) = subst Sound (sym c.clear.ensures.table) (cleared_chains (length (table_of cap m).entries) some).sound in
    record {
      shaped = sound.0;
      ended = sound.1;
      within = sound.2;
      placed = sound.3;
      unfree = sound.4;
      epochless = sound.5.0;
      nonceless = sound.5.1;
      counted = sound.6;
      apart = sound.7;
    }

pub returns : goal.returns
returns c =
    let cap = c.args.capacity in
    let m = c.wipe.new.m in
    let u = c.clear.new.records in
    let n = length (table_of cap m).entries in
    let is = c.clear.ensures.table in
    let some = some_places cap (length c.args.memory.now) m (room_of (length c.args.memory.now) cap c.requires) in
    record {
      capacity = after_capacity cap u.capacity m u.memory.now (cleared n) u.room u.bytes is (cleared_long n);
      pairs = ap pairs is ∙ (cleared_chains n some).pairs_left;
      image = after_image cap u.capacity m u.memory.now (cleared n) u.room u.bytes is (cleared_long n) (ap (λ (x : ℕ × List ℕ). x.1) c.clear.ensures.beside)
          ∙ ap (λ k. image (cleared k) (later m cap)) (places_is cap m)
          ∙ ap (image (cleared cap)) c.wipe.ensures.later;
      lender = ap (λ (x : ℕ × List ℕ). x.0) c.clear.ensures.beside;
    }
