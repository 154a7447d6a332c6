use Rattle.std.proofs.Common.{◌≡◌, ◌*◌, ◌/◌, ◌≤◌, ℕ, length, Ok, Err, sym, refl, ap, ◌∙◌, rules}
use Rattle.std.proofs.Math.Nat.{zero-mod}
use Rattle.std.proofs.lemmas.List.{length-take-le}
use Rattle.std.proofs.lemmas.Result.{err_from_is_err_and}
use Rattle.client.specs.Batches.{outlet_after}
use Rattle.client.specs.Blinding.{begun, batch_seen}
use Rattle.client.proofs.Requests.{never, writes, row_fits, too_short, enough, vet_stops, item_stops, goes, walked_under}
use Rattle.client.proofs.blinding.blind.Goals as goal

pub returns-in_default-clause-answer : goal.returns-in_default-clause-answer
returns-in_default-clause-answer g c =
    let m = g.G.Group.model in
    let stop = too_short m (length c.args.scratch.now) c.args.epoch c.args.order.pk.now c.args.order.seeds.now c.args.order.blinds.now (length c.args.outlet.now) c.in_default.ensures.cases in
    rw c.into.ensures (sym (ap (begun c.args.epoch (length c.args.order.seeds.now / 64)) stop))

pub returns-in_default-clause-outlet : goal.returns-in_default-clause-outlet
returns-in_default-clause-outlet g c =
    let m = g.G.Group.model in
    let stop = too_short m (length c.args.scratch.now) c.args.epoch c.args.order.pk.now c.args.order.seeds.now c.args.order.blinds.now (length c.args.outlet.now) c.in_default.ensures.cases in
    sym (ap (λ r. outlet_after r c.args.outlet.now) stop)

pub returns-in_err-pk-clause-answer : goal.returns-in_err-pk-clause-answer
returns-in_err-pk-clause-answer g c =
    let m = g.G.Group.model in
    let room : 1024 ≤ length c.args.scratch.now = c.in-Some.ensures.variant.0 refl in
    let same = enough m (length c.args.scratch.now) c.args.epoch c.args.order.pk.now c.args.order.seeds.now c.args.order.blinds.now (length c.args.outlet.now) room in
    let n = length c.args.order.seeds.now / 64 in
    let p = err_from_is_err_and c.from_residual.result c.from_residual.ensures.1 in
    let stop = vet_stops m (length c.args.scratch.now) c.args.epoch c.args.order.pk.now c.args.order.seeds.now c.args.order.blinds.now (length c.args.outlet.now) c.in_err-pk.field-0.0
    (c.in_err-pk.ensures.answer ∙ sym same) in
    ap batch_seen p.1 ∙ ap (λ e. Err e) p.2 ∙ sym (ap (begun c.args.epoch n) stop)

pub returns-in_err-pk-clause-outlet : goal.returns-in_err-pk-clause-outlet
returns-in_err-pk-clause-outlet g c =
    let m = g.G.Group.model in
    let room : 1024 ≤ length c.args.scratch.now = c.in-Some.ensures.variant.0 refl in
    let same = enough m (length c.args.scratch.now) c.args.epoch c.args.order.pk.now c.args.order.seeds.now c.args.order.blinds.now (length c.args.outlet.now) room in
    let n = length c.args.order.seeds.now / 64 in
    let stop = vet_stops m (length c.args.scratch.now) c.args.epoch c.args.order.pk.now c.args.order.seeds.now c.args.order.blinds.now (length c.args.outlet.now) c.in_err-pk.field-0.0
    (c.in_err-pk.ensures.answer ∙ sym same) in
    sym (ap (λ r. outlet_after r c.args.outlet.now) stop)

pub returns-in_err-walk-clause-answer : goal.returns-in_err-walk-clause-answer
returns-in_err-walk-clause-answer g c =
    let m = g.G.Group.model in
    let room : 1024 ≤ length c.args.scratch.now = c.in-Some.ensures.variant.0 refl in
    let same = enough m (length c.args.scratch.now) c.args.epoch c.args.order.pk.now c.args.order.seeds.now c.args.order.blinds.now (length c.args.outlet.now) room in
    let n = length c.args.order.seeds.now / 64 in
    let p = err_from_is_err_and c.from_residual-in_err-walk.result c.from_residual-in_err-walk.ensures.1 in
    let stop = item_stops m (length c.args.scratch.now) c.args.epoch c.args.order.pk.now c.args.order.seeds.now c.args.order.blinds.now (length c.args.outlet.now) (c.in_ok-pk.pk, c.in_ok-pk.count) c.in_err-walk.field-0.0
    (c.in_ok-pk.ensures.answer ∙ sym same)
    (walked_under m c.args.epoch 0 c.in_ok-pk.count c.args.order.seeds.now c.args.order.blinds.now c.key_id.result c.in_ok-pk.pk c.key_id.ensures ∙ c.in_err-walk.ensures) in
    ap batch_seen p.1 ∙ ap (λ e. Err e) p.2 ∙ sym (ap (begun c.args.epoch n) stop)

pub returns-in_err-walk-clause-outlet : goal.returns-in_err-walk-clause-outlet
returns-in_err-walk-clause-outlet g c =
    let m = g.G.Group.model in
    let room : 1024 ≤ length c.args.scratch.now = c.in-Some.ensures.variant.0 refl in
    let same = enough m (length c.args.scratch.now) c.args.epoch c.args.order.pk.now c.args.order.seeds.now c.args.order.blinds.now (length c.args.outlet.now) room in
    let n = length c.args.order.seeds.now / 64 in
    let stop = item_stops m (length c.args.scratch.now) c.args.epoch c.args.order.pk.now c.args.order.seeds.now c.args.order.blinds.now (length c.args.outlet.now) (c.in_ok-pk.pk, c.in_ok-pk.count) c.in_err-walk.field-0.0
    (c.in_ok-pk.ensures.answer ∙ sym same)
    (walked_under m c.args.epoch 0 c.in_ok-pk.count c.args.order.seeds.now c.args.order.blinds.now c.key_id.result c.in_ok-pk.pk c.key_id.ensures ∙ c.in_err-walk.ensures) in
    sym (ap (λ r. outlet_after r c.args.outlet.now) stop)

pub invariant_of-batch : goal.invariant_of-batch
invariant_of-batch g c =
    let known = c.in_ok-pk.ensures.known in
    record { few = known.few; seeded = known.seeded; blinded_each = known.blinded_each; whole = zero-mod (g.G.Group.model.element_width) }

pub returns-in_err-write_request : goal.returns-in_err-write_request
returns-in_err-write_request g c =
    let m = g.G.Group.model in
    let known = c.in_ok-pk.ensures.known in
    let n = c.in_ok-pk.count in
    let few = known.few in
    let whole : length c.walk.new.out ≡ n * m.element_width =
    c.walk.auto.out
    ∙ length-take-le (n * c.element_width.result) _ (row_fits n _ _ few m.element_fits c.element_width.ensures)
    ∙ ap (λ (k : ℕ). n * k) c.element_width.ensures in
    let wrote = writes m (record { epoch = c.args.epoch; count = n; items = c.walk.new.out })
    (length c.args.outlet.now) known.some few whole known.fits in
    absurd (never _ _ (c.in_err-write_request.ensures.written ∙ wrote))

pub returns : goal.returns
returns g c =
    let m = g.G.Group.model in
    let room : 1024 ≤ length c.args.scratch.now = c.in-Some.ensures.variant.0 refl in
    let same = enough m (length c.args.scratch.now) c.args.epoch c.args.order.pk.now c.args.order.seeds.now c.args.order.blinds.now (length c.args.outlet.now) room in
    let n = length c.args.order.seeds.now / 64 in
    let done = goes m (length c.args.scratch.now) c.args.epoch c.args.order.pk.now c.args.order.seeds.now c.args.order.blinds.now (length c.args.outlet.now) (c.in_ok-pk.pk, c.in_ok-pk.count) c.walk.new.out
    (c.in_ok-pk.ensures.answer ∙ sym same)
    (walked_under m c.args.epoch 0 c.in_ok-pk.count c.args.order.seeds.now c.args.order.blinds.now c.key_id.result c.in_ok-pk.pk c.key_id.ensures ∙ c.in_ok-walk.ensures) in
    record {
      answer = ap (λ (k : ℕ). Ok (c.args.epoch, k)) c.in_ok-pk.ensures.known.counted ∙ sym (ap (begun c.args.epoch n) done);
      outlet = c.in_ok-write_request.ensures.out ∙ sym (ap (λ r. outlet_after r c.args.outlet.now) done);
      scratch = search rules;
    }

pub slice_bounds-codes-end : goal.slice_bounds-codes-end
slice_bounds-codes-end g c = row_fits c.in_ok-pk.count _ _ c.in_ok-pk.ensures.known.few g.G.Group.model.element_fits c.element_width.ensures

pub slice_bounds-codes-end-2 : goal.slice_bounds-codes-end-2
slice_bounds-codes-end-2 g c =
    sym (length-take-le (c.in_ok-pk.count * c.element_width.result) _
    (row_fits c.in_ok-pk.count _ _ c.in_ok-pk.ensures.known.few g.G.Group.model.element_fits c.element_width.ensures))

pub walk-requires : goal.walk-requires
walk-requires g c =
    length-take-le (c.in_ok-pk.count * c.element_width.result) _
    (row_fits c.in_ok-pk.count _ _ c.in_ok-pk.ensures.known.few g.G.Group.model.element_fits c.element_width.ensures)
    ∙ ap (λ (k : ℕ). c.in_ok-pk.count * k) c.element_width.ensures
