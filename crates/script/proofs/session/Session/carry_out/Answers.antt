use Rattle.std.proofs.Common.{◌≡◌, Ok, sym, refl, ap, ◌∙◌}
use Rattle.std.specs.Option.{option_map}
use Rattle.script.specs.Kept.{holds}
use Rattle.script.specs.Reports.{outcome_of}
use Rattle.script.specs.Sessions.{carried, step, performed, kept, chosen}
use Rattle.script.specs.Statements.{parts, parsed}
use Rattle.script.specs.Reading.{then}
use Rattle.script.proofs.session.Session.carry_out.Goals as goal
use Rattle.script.proofs.session.Session.carry_out.Goals.{in-Some-name+in_ok-keep, in_default-name}

pub returns : goal.returns
returns c =
    let before = holds c.args.self.now.names in
    let k = c.args.self.now.kind in
    let st = c.in-Some.statement in
    let o = outcome_of c.in_ok-outcome.outcome in
    let same : c.match-statement.self.kind ≡ k =
    elim c.match-statement.branch [
      | in-Some-name+in_ok-keep w ↦ ap (λ s. s.kind) w.self-is ∙ w.keep.ensures.group
      | in_default-name w ↦ ap (λ s. s.kind) w.self-is
    ] in (
      record { name = option_map (λ x. x.now) st.name; command = st.command; outcome = o },
      ap (carried k before) (sym c.in_ok-statement.ensures ∙ ap (λ s. parsed (Ok s)) c.in-Some.is) ∙
          ap (λ a. step (parts st) (then a (performed k))) c.in_ok-task.ensures ∙ ap (step (parts st)) c.in_ok-outcome.ensures,
      (refl, refl),
      (λ n. elim c.match-statement.branch [
        | in-Some-name+in_ok-keep w ↦
            ap (λ s. holds s.names n) w.self-is ∙ w.in_ok-keep.ensures.names n ∙ ap (λ m. kept (option_map (λ x. x.now) m) o before n) (sym w.in-Some-name.is)
        | in_default-name w ↦ ap (λ s. holds s.names n) w.self-is ∙ ap (λ m. kept (option_map (λ x. x.now) m) o before n) (sym w.in_default-name.is)
      ]),
      c.next_kind-self.ensures ∙ ap (chosen o) same,
    )
