use Rattle.std.proofs.Common.{rules, ap, ◌∙◌}
use Rattle.hashing.specs.Hashing.{key_id}
use Rattle.voprf.specs.Blinding.{public_key, answered, direct as by_key}
use Rattle.station.specs.Redeeming.{authentic}
use Rattle.station.proofs.Sameness.{other_tested}
use Rattle.station.proofs.redeeming.authentic.Goals as goal

pub returns-then-ne : goal.returns-then-ne
unfolding authentic by_key answered
returns-then-ne g c =
    let m = g.G.Group.model in
    let id = other_tested c.args.id.now c.as_slice.result.now (key_id m (public_key m c.args.key)) _ _ c.ne.ensures (c.as_slice.ensures ∙ c.key_id.ensures ∙ ap (key_id m) c.public.ensures) c.if-ne.true in
    search rules

pub returns-then-is_null : goal.returns-then-is_null
unfolding authentic by_key answered
returns-then-is_null g c =
    let m = g.G.Group.model in
    let id = other_tested c.args.id.now c.as_slice.result.now (key_id m (public_key m c.args.key)) _ _ c.ne.ensures (c.as_slice.ensures ∙ c.key_id.ensures ∙ ap (key_id m) c.public.ensures) c.if-ne.false in
    search rules

pub returns-then-ne-2 : goal.returns-then-ne-2
unfolding authentic by_key answered
returns-then-ne-2 g c =
    let m = g.G.Group.model in
    let id = other_tested c.args.id.now c.as_slice.result.now (key_id m (public_key m c.args.key)) _ _ c.ne.ensures (c.as_slice.ensures ∙ c.key_id.ensures ∙ ap (key_id m) c.public.ensures) c.if-ne.false in
    let told = other_tested c.args.told.now c.as_slice-2.result.now (by_key m c.args.key c.args.input.now) _ _ c.ne-2.ensures (search rules) c.if-ne-2.true in
    search rules

pub returns : goal.returns
unfolding authentic by_key answered
returns g c =
    let m = g.G.Group.model in
    let id = other_tested c.args.id.now c.as_slice.result.now (key_id m (public_key m c.args.key)) _ _ c.ne.ensures (c.as_slice.ensures ∙ c.key_id.ensures ∙ ap (key_id m) c.public.ensures) c.if-ne.false in
    let told = other_tested c.args.told.now c.as_slice-2.result.now (by_key m c.args.key c.args.input.now) _ _ c.ne-2.ensures (search rules) c.if-ne-2.false in
    search rules
