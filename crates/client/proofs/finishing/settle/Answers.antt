use Rattle.std.proofs.Common.{◌≡◌, ◌*◌, ◌≤◌, ℕ, length, Err, sym, refl, ap, ◌∙◌, arith, rules}
use Rattle.std.proofs.Math.Nat.{mul-mod_left}
use Rattle.std.proofs.lemmas.List.{length-take-le}
use Rattle.std.proofs.lemmas.Result.{err_from_is_err_and}
use Rattle.messages.specs.Views.{answers}
use Rattle.client.specs.Batches.{outlet_after}
use Rattle.client.specs.Finishing.{settled}
use Rattle.client.proofs.Finishes.{laid_over, too_short, enough, vetting_stops, confirming_stops, all_done, no_late_fault}
use Rattle.client.proofs.finishing.settle.Goals as goal

pub returns-in_default-clause-answer : goal.returns-in_default-clause-answer
returns-in_default-clause-answer g c =
    let m = g.G.Group.model in
    let stop = too_short m (length c.args.scratch.now) c.args.pending.now.epoch c.args.pending.now.count c.args.order.pk.now c.args.order.seeds.now
    c.args.order.blinds.now c.args.reply.now (length c.args.outlet.now) c.in_default.ensures.cases in
    rw c.into.ensures (sym (ap settled stop))

pub returns-in_default-clause-outlet : goal.returns-in_default-clause-outlet
returns-in_default-clause-outlet g c =
    let m = g.G.Group.model in
    let stop = too_short m (length c.args.scratch.now) c.args.pending.now.epoch c.args.pending.now.count c.args.order.pk.now c.args.order.seeds.now
    c.args.order.blinds.now c.args.reply.now (length c.args.outlet.now) c.in_default.ensures.cases in
    sym (ap (λ r. outlet_after r c.args.outlet.now) stop)

pub returns-in_err-pk-clause-answer : goal.returns-in_err-pk-clause-answer
returns-in_err-pk-clause-answer g c =
    let m = g.G.Group.model in
    let room : 1024 ≤ length c.args.scratch.now = c.in-Some.ensures.variant.0 refl in
    let same = enough m (length c.args.scratch.now) c.args.pending.now.epoch c.args.pending.now.count c.args.order.pk.now c.args.order.seeds.now
    c.args.order.blinds.now c.args.reply.now (length c.args.outlet.now) room in
    let p = err_from_is_err_and c.from_residual.result c.from_residual.ensures.1 in
    let stop = vetting_stops m (length c.args.scratch.now) c.args.pending.now.epoch c.args.pending.now.count c.args.order.pk.now c.args.order.seeds.now
    c.args.order.blinds.now c.args.reply.now (length c.args.outlet.now) c.in_err-pk.field-0.0
    (same ∙ sym c.in_err-pk.ensures.answer) in
    p.1 ∙ ap (λ e. Err e) p.2 ∙ sym (ap settled stop)

pub returns-in_err-pk-clause-outlet : goal.returns-in_err-pk-clause-outlet
returns-in_err-pk-clause-outlet g c =
    let m = g.G.Group.model in
    let room : 1024 ≤ length c.args.scratch.now = c.in-Some.ensures.variant.0 refl in
    let same = enough m (length c.args.scratch.now) c.args.pending.now.epoch c.args.pending.now.count c.args.order.pk.now c.args.order.seeds.now
    c.args.order.blinds.now c.args.reply.now (length c.args.outlet.now) room in
    let stop = vetting_stops m (length c.args.scratch.now) c.args.pending.now.epoch c.args.pending.now.count c.args.order.pk.now c.args.order.seeds.now
    c.args.order.blinds.now c.args.reply.now (length c.args.outlet.now) c.in_err-pk.field-0.0
    (same ∙ sym c.in_err-pk.ensures.answer) in
    sym (ap (λ r. outlet_after r c.args.outlet.now) stop)

pub returns-in_err-confirm-clause-answer : goal.returns-in_err-confirm-clause-answer
returns-in_err-confirm-clause-answer g c =
    let m = g.G.Group.model in
    let room : 1024 ≤ length c.args.scratch.now = c.in-Some.ensures.variant.0 refl in
    let same = enough m (length c.args.scratch.now) c.args.pending.now.epoch c.args.pending.now.count c.args.order.pk.now c.args.order.seeds.now
    c.args.order.blinds.now c.args.reply.now (length c.args.outlet.now) room in
    let p = err_from_is_err_and c.from_residual-in_err-confirm.result c.from_residual-in_err-confirm.ensures.1 in
    let stop = confirming_stops m (length c.args.scratch.now) c.args.pending.now.epoch c.args.pending.now.count c.args.order.pk.now c.args.order.seeds.now
    c.args.order.blinds.now c.args.reply.now (length c.args.outlet.now) (c.in_ok-pk.pk, answers c.in_ok-pk.reply)
    (same ∙ sym c.in_ok-pk.ensures.answer) c.key_id-id.result c.key_id-id.ensures c.in_err-confirm.field-0.0 c.in_err-confirm.ensures in
    p.1 ∙ ap (λ e. Err e) p.2 ∙ sym (ap settled stop)

pub returns-in_err-confirm-clause-outlet : goal.returns-in_err-confirm-clause-outlet
returns-in_err-confirm-clause-outlet g c =
    let m = g.G.Group.model in
    let room : 1024 ≤ length c.args.scratch.now = c.in-Some.ensures.variant.0 refl in
    let same = enough m (length c.args.scratch.now) c.args.pending.now.epoch c.args.pending.now.count c.args.order.pk.now c.args.order.seeds.now
    c.args.order.blinds.now c.args.reply.now (length c.args.outlet.now) room in
    let stop = confirming_stops m (length c.args.scratch.now) c.args.pending.now.epoch c.args.pending.now.count c.args.order.pk.now c.args.order.seeds.now
    c.args.order.blinds.now c.args.reply.now (length c.args.outlet.now) (c.in_ok-pk.pk, answers c.in_ok-pk.reply)
    (same ∙ sym c.in_ok-pk.ensures.answer) c.key_id-id.result c.key_id-id.ensures c.in_err-confirm.field-0.0 c.in_err-confirm.ensures in
    sym (ap (λ r. outlet_after r c.args.outlet.now) stop)

pub returns-in_err-walk-clause-answer : goal.returns-in_err-walk-clause-answer
returns-in_err-walk-clause-answer g c =
    let m = g.G.Group.model in
    let room : 1024 ≤ length c.args.scratch.now = c.in-Some.ensures.variant.0 refl in
    let same = enough m (length c.args.scratch.now) c.args.pending.now.epoch c.args.pending.now.count c.args.order.pk.now c.args.order.seeds.now
    c.args.order.blinds.now c.args.reply.now (length c.args.outlet.now) room in
    absurd (no_late_fault m (length c.args.scratch.now) c.args.pending.now.epoch c.args.pending.now.count c.args.order.pk.now c.args.order.seeds.now
    c.args.order.blinds.now c.args.reply.now (length c.args.outlet.now) (c.in_ok-pk.pk, answers c.in_ok-pk.reply)
    (same ∙ sym c.in_ok-pk.ensures.answer) c.key_id-id.result c.key_id-id.ensures c.in_ok-confirm.ensures
    c.in_err-walk.field-0.0 c.in_err-walk.ensures)

pub returns-in_err-walk-clause-outlet : goal.returns-in_err-walk-clause-outlet
returns-in_err-walk-clause-outlet g c =
    let m = g.G.Group.model in
    let room : 1024 ≤ length c.args.scratch.now = c.in-Some.ensures.variant.0 refl in
    let same = enough m (length c.args.scratch.now) c.args.pending.now.epoch c.args.pending.now.count c.args.order.pk.now c.args.order.seeds.now
    c.args.order.blinds.now c.args.reply.now (length c.args.outlet.now) room in
    absurd (no_late_fault m (length c.args.scratch.now) c.args.pending.now.epoch c.args.pending.now.count c.args.order.pk.now c.args.order.seeds.now
    c.args.order.blinds.now c.args.reply.now (length c.args.outlet.now) (c.in_ok-pk.pk, answers c.in_ok-pk.reply)
    (same ∙ sym c.in_ok-pk.ensures.answer) c.key_id-id.result c.key_id-id.ensures c.in_ok-confirm.ensures
    c.in_err-walk.field-0.0 c.in_err-walk.ensures)

pub invariant_of-batch : goal.invariant_of-batch
invariant_of-batch g c =
    let m = g.G.Group.model in
    let known = c.in_ok-pk.ensures.known in
    let n = c.args.pending.now.count in
    let few = c.args.pending.now.few in
    let count : c.in_ok-pk.reply.count ≡ n = known.counted in
    record {
      few = omega arith;
      seeded = known.seeded ∙ ap (λ (k : ℕ). 64 * k) (sym count);
      blinded_each = known.blinded_each ∙ ap (λ (k : ℕ). k * m.scalars.width) (sym count);
      whole = rw known.answered_each (mul-mod_left n m.element_width);
    }

pub returns : goal.returns
returns g c =
    let m = g.G.Group.model in
    let room : 1024 ≤ length c.args.scratch.now = c.in-Some.ensures.variant.0 refl in
    let same = enough m (length c.args.scratch.now) c.args.pending.now.epoch c.args.pending.now.count c.args.order.pk.now c.args.order.seeds.now
    c.args.order.blinds.now c.args.reply.now (length c.args.outlet.now) room in
    let done = all_done m (length c.args.scratch.now) c.args.pending.now.epoch c.args.pending.now.count c.args.order.pk.now c.args.order.seeds.now
    c.args.order.blinds.now c.args.reply.now (length c.args.outlet.now) (c.in_ok-pk.pk, answers c.in_ok-pk.reply)
    (same ∙ sym c.in_ok-pk.ensures.answer) c.key_id-id.result c.key_id-id.ensures c.in_ok-confirm.ensures
    c.walk.new.out c.in_ok-walk.ensures in
    let known = c.in_ok-pk.ensures.known in
    let count : c.in_ok-pk.reply.count ≡ c.args.pending.now.count = known.counted in
    let fits = known.fits in
    let stays = c.walk.auto.out in
    let cut = length-take-le (132 * c.in_ok-pk.reply.count) c.args.outlet.now (omega arith) in
    record {
      answer = sym (ap settled done);
      outlet = laid_over (132 * c.in_ok-pk.reply.count) c.walk.new.out c.args.outlet.now (omega arith) ∙ sym (ap (λ r. outlet_after r c.args.outlet.now) done);
      scratch = search rules;
    }
