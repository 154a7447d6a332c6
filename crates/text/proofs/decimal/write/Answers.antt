use Rattle.std.proofs.Common.{◌≡◌, ◌-◌, take, drop, sym, ap, ◌∙◌}
use Rattle.std.proofs.lemmas.List.{take_rest}
use Rattle.text.proofs.Appended.{appended}
use Rattle.text.proofs.decimal.write.Goals as goal

pub returns : goal.returns
returns c =
    let all = c.spell-start.new.digits in
    let start = c.spell-start.result in
    let rest : take (20 - start) (drop start all) ≡ drop start all = ap (λ n. take (n - start) (drop start all)) (sym c.spell-start.array_long) ∙ take_rest all start in
    appended _ _ c.args.text.now c.extend_from_slice.new.self _ (rest ∙ c.spell-start.ensures.digits) c.extend_from_slice.ensures.items c.extend_from_slice.ensures.capacity c.extend_from_slice.ensures.full
