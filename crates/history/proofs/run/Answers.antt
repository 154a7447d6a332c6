use Rattle.std.proofs.Common.{◌≡◌, ℕ, ◌<◌, ◌≤◌, min, [], ◌∷◌, reverse, length, take, drop, None, sym, refl, ap, subst, arith, rules, length-take-le}
use native.Mathlib.Nat.{min-le_left, min-le_right}
use Rattle.std.proofs.lemmas.List.{get_or-take}
use Rattle.ring.specs.Places.{places}
use Rattle.history.specs.declared.calls.Call.TheVariants.{Count}
use Rattle.history.specs.Events.{event, events, told}
use Rattle.history.specs.Kept.{Tied, Kept, SoFar}
use Rattle.history.specs.History.{open_key}
use Rattle.history.specs.Law.{Lawful}
use Rattle.history.proofs.Keeping.{tied_fresh}
use Rattle.history.proofs.Growing.{lawful, grown, events_whole, rest_stays}
use Rattle.history.proofs.run.Goals as goal

pub loop-i-init : goal.loop-i-init
loop-i-init g c =
    let made = c.new-station.ensures in
    let r = c.new-station.result.ring in
    let b = g.B.Book.meaning c.new-station.result.book in
    let m = g.G.Group.model in (
      record {
        tied =
            subst (λ ps. Tied b.capacity (open_key m []) 0 0 [] ps r.latest b) (sym made.places)
            (subst (λ (n : ℕ). Tied b.capacity (open_key m []) 0 0 [] (None ∷ None ∷ None ∷ None ∷ []) n b) (sym made.latest)
            (tied_fresh b.capacity (g.B.Book.meaning c.args.book) b made.book (sym made.book.room)));
        law = tt;
      },
      refl,
      refl,
    )

pub loop-i-preserved : goal.loop-i-preserved
loop-i-preserved g c =
    let calls = c.args.calls.now in
    let made = c.min-made.result in
    let os = c.loop-i.outcomes in
    let i = c.loop-i.i in
    let a = min-le_left (length calls) (length c.args.outcomes.now) in
    let b = min-le_right (length calls) (length c.args.outcomes.now) in
    let inv = c.loop-i.invariant in
    let s = c.make.new.station in
    let most : made ≤ length calls = omega (arith, c.min-made.ensures) in
    let long : length (take made calls) ≡ made = length-take-le made calls most in
    let below : i < made = omega arith in
    let more = grown calls os i Count c.make.result (omega arith) (omega (arith, inv.2)) in (
      subst (λ h. Kept g.G.Group.model (g.B.Book.meaning c.new-station.result.book).capacity h (places s.ring) s.ring.latest (g.B.Book.meaning s.book)) (sym more)
          (subst (λ x. Kept g.G.Group.model (g.B.Book.meaning c.new-station.result.book).capacity (event x (told c.make.result) ∷ reverse (events (take i calls) (take i os))) (places s.ring) s.ring.latest (g.B.Book.meaning s.book))
          (get_or-take made calls i Count below) (c.make.ensures _ _ inv.0)),
      rest_stays c.args.outcomes.now os i c.make.result inv.1,
      search rules,
    )

pub returns : goal.returns
returns g c =
    let calls = c.args.calls.now in
    let os = c.loop-i.outcomes in
    let inv = c.loop-i.invariant in
    let m = g.G.Group.model in
    let made = c.min-made.ensures in
    let ended = c.loop-i-test.false in
    let a = min-le_left (length calls) (length c.args.outcomes.now) in
    let long : length (take c.min-made.result calls) ≡ c.min-made.result = length-take-le c.min-made.result calls (omega (arith, c.min-made.ensures)) in
    let all : reverse (events (take c.loop-i.i calls) (take c.loop-i.i os)) ≡ reverse (events calls os) =
    ap reverse (events_whole calls os c.loop-i.i (subst (λ (n : ℕ). min (length calls) n ≤ c.loop-i.i) (sym inv.2) (omega arith))) in
    let last : c.loop-i.i ≡ c.min-made.result = let e = c.loop-i.auto.i-end in omega arith in
    record {
      made = made;
      law =
          subst (λ (n : ℕ). Lawful m n (reverse (events calls os))) c.new-station.ensures.book.room
          (lawful m (g.B.Book.meaning c.new-station.result.book).capacity (reverse (events calls os)) (subst (SoFar m (g.B.Book.meaning c.new-station.result.book).capacity) all inv.0.law));
      later = subst (λ (n : ℕ). drop n os ≡ drop n c.args.outcomes.now) last inv.1;
    }
