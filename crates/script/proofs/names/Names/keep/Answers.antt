use Rattle.std.proofs.Common.{◌≡◌, ℕ, zero, suc, ◌<◌, vec_items, false, true, refl, ap, arith}
use Rattle.std.proofs.lemmas.Bool.{both_ways}
use Rattle.std.proofs.lemmas.Result.{err_from_is_err_and}
use Rattle.std.specs.Map.{lookup}
use Rattle.std.specs.Option.{option_map}
use Rattle.std.specs.Str.{bytes_eq}
use Rattle.script.specs.Kept.{holds}
use Rattle.script.proofs.Table.{bytes_at_put}
use Rattle.script.proofs.names.Names.keep.Goals as goal

none_left : (n : ℕ) → (0 < n → false ≡ true) → n ≡ 0
none_left zero h = refl
none_left (suc n) h = absurd (both_ways false refl (h (omega arith)))

pub returns-in_err-insert : goal.returns-in_err-insert
unfolding holds
returns-in_err-insert c =
    let p = err_from_is_err_and c.from_residual.result c.from_residual.ensures.1 in
    rw p.1 (
      (λ other. ap (λ es. option_map (λ v. vec_items v) (lookup (λ k. bytes_eq other (vec_items k)) es)) c.in_err-insert.ensures.err),
      ap (option_map (λ v. vec_items v)) c.in_err-insert.ensures.absent,
      none_left _ c.in_err-insert.ensures.succeeds,
    )

pub returns : goal.returns
unfolding holds
returns c = bytes_at_put (vec_items c.args.name) c.args.self.now.kept c.insert.new.self c.args.bytes c.in_ok-insert.ensures.updates
