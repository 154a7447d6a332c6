use Rattle.std.proofs.Common.{◌≡◌, ℕ, ◌+◌, ◌-◌, ◌*◌, ◌/◌, ◌<◌, ◌≤◌, ◌++◌, List, Ok, Err, length, take, inl, inr, sym, refl, ap, ◌∙◌, arith, rules}
use Rattle.std.specs.Iterator.Adapters.{zip_first, zip_second}
use Rattle.std.specs.Simd.{first_chunks}
use Rattle.std.specs.Slice.Iter.{iter_rest, chunks_exact_rest, chunks_exact_size}
use Rattle.std.proofs.Math.Nat.{zero-mul}
use Rattle.std.proofs.lemmas.List.{take_all}
use Rattle.std.proofs.lemmas.Result.{err_from_is_err_and}
use Rattle.std.proofs.lemmas.Slice.{take-put_mid}
use Rattle.faults.specs.declared.BatchFault.{BatchFault}
use Rattle.faults.specs.declared.BatchFault.TheVariants.{Item}
use Rattle.group.proofs.Weighing.{item_within}
use Rattle.client.proofs.Walks.{begins_at, next_taken, goes_on, stops, ends, of_own_blind, was_made, was_refused, refused_for, parts_many, none_many}
use Rattle.client.proofs.items.Batch.walk.Goals as goal

pub overflow_add-at : goal.overflow_add-at
overflow_add-at g c =
    let i = c.in-Some.i in
    let w = c.width-width.result in
    let s = c.in-Some.ensures.steps in
    let last = c.loop-i.invariant.last in
    let h : i < c.args.self.now.count = omega arith in
    let inside = item_within (i * w) i w c.args.self.now.count (length c.args.out.now) h refl (c.requires ∙ ap (λ (k : ℕ). c.args.self.now.count * k) (sym c.width-width.ensures)) in
    search rules

pub slice_bounds-make-end : goal.slice_bounds-make-end
slice_bounds-make-end g c =
    let i = c.in-Some.i in
    let w = c.width-width.result in
    let s = c.in-Some.ensures.steps in
    let last = c.loop-i.invariant.last in
    let h : i < c.args.self.now.count = omega arith in
    let inside = item_within (i * w) i w c.args.self.now.count (length c.args.out.now) h refl (c.requires ∙ ap (λ (k : ℕ). c.args.self.now.count * k) (sym c.width-width.ensures)) in
    search rules

pub loop-i-init : goal.loop-i-init
loop-i-init g c =
    let m = g.G.Group.model in
    let n = c.args.self.now.count in
    let z = c.into_iter-i-iterator.ensures.into_iter_gives in
    let f = c.zip-i-items.ensures.first in
    let range = ap (λ x. zip_first (zip_first x)) z ∙ ap zip_first f ∙ c.zip.ensures.first in
    let rows = ap (λ x. zip_second (zip_first x)) z ∙ ap zip_second f in
    let seeds : iter_rest (zip_second c.zip.result) ≡ c.as_chunks.result.0.now = c.zip.ensures.second.0 in
    let chunks : zip_second c.zip-i-items.result ≡ c.chunks_exact-blinds.result = c.zip-i-items.ensures.second in
    let blinds = ap zip_second z ∙ chunks in
    let seeded = c.args.self.now.seeded in
    let many : length c.args.self.now.seeds.now / 64 ≡ n = omega arith in
    record {
      last = ap (λ r. r.end) range;
      blind_wide = ap chunks_exact_size blinds ∙ c.chunks_exact-blinds.ensures.size ∙ c.scalar_width.ensures;
      got_wide = c.chunks_exact-answers.ensures.size ∙ c.element_width.ensures;
      going = begins_at m g.S.Step.made c.args.self.now.epoch c.args.self.now.id.now n c.args.self.now.seeds.now c.args.self.now.blinds.now c.args.self.now.answers.now
          _ _ _ _ _ c.args.self.now.blinded_each c.args.self.now.whole (ap (λ r. r.start) range)
          (ap iter_rest rows ∙ seeds ∙ c.as_chunks.ensures.front ∙ ap (λ (k : ℕ). first_chunks 64 k c.args.self.now.seeds.now) many)
          (ap chunks_exact_rest blinds ∙ c.chunks_exact-blinds.ensures.rest) c.chunks_exact-answers.ensures.rest
          (ap (λ r. take (r.start * g.S.Step.wide) c.args.out.now) range ∙ ap (λ (k : ℕ). take k c.args.out.now) (zero-mul g.S.Step.wide));
    }

pub loop-i-preserved : goal.loop-i-preserved
loop-i-preserved g c =
    let m = g.G.Group.model in
    let inv = c.loop-i.invariant in
    let s = c.in-Some.ensures.steps in
    let n = c.args.self.now.count in
    let at = c.loop-i.i-iterator in
    let next = c.next.new.self in
    let i = (zip_first (zip_first at)).start in
    let w = c.width-width.result in
    let last = inv.last in
    let h : i < n = omega arith in
    let given = next_taken m.element_width c.loop-i.answers c.next-in-loop-i.new.self c.next-in-loop-i.result c.unwrap_or_default-got.result
    m.element_some inv.got_wide inv.going.whole c.next-in-loop-i.ensures.steps c.unwrap_or_default-got.ensures in
    let part = c.make.new.place in
    let own = of_own_blind c.make.result g.S.Step.made c.input-input.result c.in-Some.blind.now _
    c.unwrap_or_default-got.result.now part c.make.ensures (search rules) in
    let made = was_made c.make.result (g.S.Step.made c.input-input.result c.in-Some.blind.now c.unwrap_or_default-got.result.now) part
    (sym c.in_ok-map_err.ensures.variant) own in
    let on = goes_on m g.S.Step.made c.args.self.now.epoch c.args.self.now.id.now n c.args.self.now.seeds.now c.args.self.now.blinds.now c.args.self.now.answers.now
    i (iter_rest (zip_second (zip_first at))) (iter_rest (zip_second (zip_first next))) c.in-Some.seed.now
    (chunks_exact_rest (zip_second at)) c.in-Some.blind.now (chunks_exact_rest (zip_second next))
    (chunks_exact_rest c.loop-i.answers) c.unwrap_or_default-got.result.now (chunks_exact_rest c.next-in-loop-i.new.self) (take (i * g.S.Step.wide) c.loop-i.out)
    inv.going h s.0.1 s.1.1.0 (s.1.1.1 ∙ inv.blind_wide) given c.input-input.result part c.input-input.ensures made in
    let wide = c.width-width.ensures in
    let fits = c.make.auto.place in
    let stays = c.loop-i.auto.out in
    let inside = item_within (i * g.S.Step.wide) i g.S.Step.wide n (length c.loop-i.out) h refl (stays ∙ c.requires) in
    let place : c.in-Some.i * w ≡ i * g.S.Step.wide = ap (λ (k : ℕ). k * w) s.0.0.1.1 ∙ ap (λ (k : ℕ). i * k) wide in
    let ends : (i + 1) * g.S.Step.wide ≡ c.in-Some.i * w + length part = omega arith in
    let written : take ((i + 1) * g.S.Step.wide) _ ≡ take (i * g.S.Step.wide) c.loop-i.out ++ part =
    take-put_mid (c.in-Some.i * w) (c.in-Some.i * w + w - c.in-Some.i * w) c.loop-i.out part ((i + 1) * g.S.Step.wide) ends (omega arith)
    ∙ ap (λ (k : ℕ). take k c.loop-i.out ++ part) place in
    record {
      last = s.0.0.0 ∙ inv.last;
      blind_wide = s.1.0 ∙ inv.blind_wide;
      got_wide = c.next-in-loop-i.ensures.steps.0 ∙ inv.got_wide;
      going = rw (s.0.0.1.2, written) on;
    }

pub returns-in_err-map_err : goal.returns-in_err-map_err
returns-in_err-map_err g c =
    let m = g.G.Group.model in
    let p = err_from_is_err_and c.from_residual.result c.from_residual.ensures.1 in
    let inv = c.loop-i.invariant in
    let s = c.in-Some.ensures.steps in
    let n = c.args.self.now.count in
    let at = c.loop-i.i-iterator in
    let next = c.next.new.self in
    let i = (zip_first (zip_first at)).start in
    let last = inv.last in
    let h : i < n = omega arith in
    let given = next_taken m.element_width c.loop-i.answers c.next-in-loop-i.new.self c.next-in-loop-i.result c.unwrap_or_default-got.result
    m.element_some inv.got_wide inv.going.whole c.next-in-loop-i.ensures.steps c.unwrap_or_default-got.ensures in
    let told = was_refused c.make.result c.in_err-map_err.field-0.0 _ c.in_err-map_err.ensures.cases in
    let fault = told.0 in
    let says = told.2 in
    let same : c.in_err-map_err.field-0.0 ≡ Item (c.in-Some.i + 1) fault = search rules in
    let answer = g.S.Step.made c.input-input.result c.in-Some.blind.now c.unwrap_or_default-got.result.now in
    let own = of_own_blind c.make.result g.S.Step.made c.input-input.result c.in-Some.blind.now _
    c.unwrap_or_default-got.result.now c.make.new.place c.make.ensures (search rules) in
    let refused : answer ≡ Err fault = refused_for c.make.result answer (λ _. answer ≡ Ok c.make.new.place) fault told.1 own in
    let stop = stops m g.S.Step.made c.args.self.now.epoch c.args.self.now.id.now n c.args.self.now.seeds.now c.args.self.now.blinds.now c.args.self.now.answers.now
    i (iter_rest (zip_second (zip_first at))) (iter_rest (zip_second (zip_first next))) c.in-Some.seed.now
    (chunks_exact_rest (zip_second at)) c.in-Some.blind.now (chunks_exact_rest (zip_second next))
    (chunks_exact_rest c.loop-i.answers) c.unwrap_or_default-got.result.now (chunks_exact_rest c.next-in-loop-i.new.self) (take (i * g.S.Step.wide) c.loop-i.out)
    inv.going h s.0.1 s.1.1.0 (s.1.1.1 ∙ inv.blind_wide) given c.input-input.result fault c.input-input.ensures refused in
    rw (p.1, p.2) (stop ∙ ap (λ (k : ℕ). Err (Item (k + 1) fault)) (sym s.0.0.1.1) ∙ ap (λ (f : BatchFault). Err f) (sym same))

pub returns : goal.returns
returns g c =
    let m = g.G.Group.model in
    let inv = c.loop-i.invariant in
    let at = c.loop-i.i-iterator in
    let n = c.args.self.now.count in
    let i = (zip_first (zip_first at)).start in
    let last = inv.last in
    let each = inv.going.blinded_each in
    let wide = inv.blind_wide in
    let parts = ap length inv.going.parted ∙ parts_many 64 (n - i) inv.going.rest in
    let done : n ≤ i = elim c.in-None.ensures.steps as (λ _. n ≤ i) [
      | inl a ↦ elim a.1 as (λ _. n ≤ i) [ inl r ↦ omega (arith, r.1.1.0) | inr k ↦ omega (arith, k.1.0) ]
      | inr b ↦ let short = b.1.1.0 in let none : n - i ≡ 0 = none_many (n - i) m.scalars.width (omega arith) in omega arith
    ] in
    let same : i ≡ n = let w = inv.going.within in omega arith in
    let all : length c.loop-i.out ≤ i * g.S.Step.wide =
    let e = c.loop-i.auto.out ∙ c.requires ∙ ap (λ (k : ℕ). k * g.S.Step.wide) (sym same) in omega arith in
    ends m g.S.Step.made c.args.self.now.epoch c.args.self.now.id.now n c.args.self.now.seeds.now c.args.self.now.blinds.now c.args.self.now.answers.now
    i _ _ _ _ inv.going done
    ∙ ap (λ (l : List ℕ). Ok l) (take_all (i * g.S.Step.wide) c.loop-i.out all)
