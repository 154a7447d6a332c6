use Rattle.std.proofs.Common.{◌≡◌, ℕ, ◌+◌, ◌-◌, ◌*◌, ◌<◌, ◌≤◌, List, [], ◌++◌, length, take, Ok, Err, sym, refl, ap, ◌∙◌, arith, inl, inr}
use Rattle.std.proofs.lemmas.Result.{err_from_is_err_and}
use Rattle.group.proofs.Weighing.{item_within}
use Rattle.numbers.specs.Writing.{put_so_far}
use Rattle.voprf.proofs.Sums.{next_place}
use Rattle.token.specs.Tokens.{element_of}
use Rattle.station.specs.Issuing.{of_item, answer_codes}
use Rattle.station.proofs.Items.{onward, finished, fewer, none_left}
use Rattle.station.proofs.issuing.answer_items.Goals as goal

pub loop-place-init : goal.loop-place-init
loop-place-init g c =
    let m = g.G.Group.model in
    let zipped = c.zip-place-items.ensures in
    let all : c.args.count - 0 ≡ c.args.count = omega arith in
    rw (c.into_iter-place-iterator.ensures.into_iter_gives, zipped.first, zipped.second, c.chunks_exact.ensures.rest) (
      c.requires.whole ∙ ap (λ (n : ℕ). n * m.element_width) (sym all),
      c.chunks_exact.ensures.size ∙ c.element_width.ensures,
      refl,
      omega arith,
      omega (arith, c.requires.none),
      c.requires.room,
      ap (answer_codes m c.args.key 0 (c.args.count - 0) c.args.items.now) (ap (λ (n : ℕ). take n c.args.codes.now.bytes.now) c.requires.none)
          ∙ ap (λ (n : ℕ). answer_codes m c.args.key 0 n c.args.items.now []) all,
    )

pub item-requires : goal.item-requires
item-requires g c =
    let step = c.in-Some.ensures.steps in
    let inv = c.loop-place.invariant in
    let few = c.requires.few in
    omega (arith, step.0.1.0, step.0.1.1)

pub put-requires : goal.put-requires
put-requires g c =
    let m = g.G.Group.model in
    let step = c.in-Some.ensures.steps in
    let inv = c.loop-place.invariant in
    let wide : length c.as_slice.result.now ≡ m.element_width =
    ap length (c.as_slice.ensures ∙ c.encode.ensures) ∙ m.coded c.evaluate.result in
    let few = c.requires.few in
    let fits = m.element_fits in
    let below : c.loop-place.place-iterator.a.start < 16 = omega (arith, step.0.1.0) in
    let inside = item_within c.loop-place.codes.len c.loop-place.place-iterator.a.start m.element_width 16 (16 * m.element_width) below inv.4 refl in
    omega arith

pub loop-place-preserved : goal.loop-place-preserved
loop-place-preserved g c =
    let m = g.G.Group.model in
    let step = c.in-Some.ensures.steps in
    let inv = c.loop-place.invariant in
    let from = c.loop-place.place-iterator.a.start in
    let rest = c.loop-place.place-iterator.b.rest.now in
    let later = c.next.new.self.b.rest.now in
    let count = c.args.count in
    let below : from < count = omega (arith, step.0.1.0) in
    let wide : length c.in-Some.code.now ≡ m.element_width = step.1.1.1 ∙ inv.1 in
    let coded : c.as_slice.result.now ≡ m.code c.evaluate.result = c.as_slice.ensures ∙ c.encode.ensures in
    let long : length c.as_slice.result.now ≡ m.element_width = ap length coded ∙ m.coded c.evaluate.result in
    let next : c.next.new.self.a.start ≡ from + 1 = step.0.1.2 in
    let ends : c.put.new.self.len ≡ c.loop-place.codes.len + m.element_width = omega (arith, c.put.ensures.len) in
    let goes = onward m c.args.key from count rest c.in-Some.code.now later (put_so_far c.loop-place.codes) (Ok c.in_ok-sent.sent) below step.1.1.0 wide
    (c.in_ok-sent.ensures ∙ ap (λ (n : ℕ). of_item n (element_of m c.in-Some.code.now)) step.0.1.1) in (
      fewer count from m.element_width rest c.in-Some.code.now later below inv.0 step.1.1.0 wide ∙ ap (λ (n : ℕ). (count - n) * m.element_width) (sym next),
      step.1.0 ∙ inv.1,
      step.0.0 ∙ inv.2,
      omega arith,
      ends ∙ next_place c.loop-place.codes.len from m.element_width m.element_width inv.4 refl ∙ ap (λ (n : ℕ). n * m.element_width) (sym next),
      c.put.ensures.room ∙ inv.5,
      ap (λ (n : ℕ). answer_codes m c.args.key n (count - n) later (put_so_far c.put.new.self)) next
          ∙ ap (answer_codes m c.args.key (from + 1) (count - (from + 1)) later)
          (c.put.ensures.parts ∙ ap (λ (l : List ℕ). put_so_far c.loop-place.codes ++ l) (coded ∙ ap m.code c.evaluate.ensures))
          ∙ goes
          ∙ inv.6,
    )

pub returns-in_err-sent : goal.returns-in_err-sent
returns-in_err-sent g c =
    let m = g.G.Group.model in
    let step = c.in-Some.ensures.steps in
    let inv = c.loop-place.invariant in
    let from = c.loop-place.place-iterator.a.start in
    let below : from < c.args.count = omega (arith, step.0.1.0) in
    let wide : length c.in-Some.code.now ≡ m.element_width = step.1.1.1 ∙ inv.1 in
    let p = err_from_is_err_and c.from_residual.result c.from_residual.ensures.1 in
    let stops = onward m c.args.key from c.args.count c.loop-place.place-iterator.b.rest.now c.in-Some.code.now c.next.new.self.b.rest.now
    (put_so_far c.loop-place.codes) (Err c.in_err-sent.field-0.0) below step.1.1.0 wide
    (c.in_err-sent.ensures ∙ ap (λ (n : ℕ). of_item n (element_of m c.in-Some.code.now)) step.0.1.1)
    ∙ inv.6 in
    rw (p.1, p.2) (record { codes = sym stops; len = tt })

pub returns : goal.returns
returns g c =
    let m = g.G.Group.model in
    let inv = c.loop-place.invariant in
    let from = c.loop-place.place-iterator.a.start in
    let ended : c.args.count ≤ from =
    elim c.in-None.ensures.steps [
      | inl over ↦ omega (arith, over.1.1.0, inv.2)
      | inr short ↦ none_left c.args.count from m.element_width (length c.loop-place.place-iterator.b.rest.now) inv.0 (omega (arith, short.1.1.0, inv.1))
    ] in
    let last : from ≡ c.args.count = omega arith in
    record {
      codes = sym inv.6 ∙ finished m c.args.key from c.args.count c.loop-place.place-iterator.b.rest.now (put_so_far c.loop-place.codes) ended;
      len = inv.4 ∙ ap (λ (n : ℕ). n * m.element_width) last;
    }
