use Rattle.std.proofs.Common.{◌≡◌, List, [], ◌∷◌, map, Ok, Err, vec_items, Result, ap, ◌∙◌, subst}
use mathlib.Core.List.{map-append}
use Rattle.faults.specs.declared.Refusal.{Refusal}
use Rattle.script.specs.declared.answers.Answer.{Answer}
use Rattle.script.specs.declared.errors.LineFault.{LineFault}
use Rattle.counter.specs.Ledgers.{Lent, Standing, lent_of, places_in, Serves, KeepsCall}
use Rattle.counter.specs.declared.ledger.Entry.{Entry}
use Rattle.counter.proofs.ledger.Ledger.serve.Goals as goal

keeps : {s t : Standing} (r : Result (Result Answer Refusal) LineFault) → t ≡ s → KeepsCall s t r
keeps (Ok a) e = e
keeps (Err f) e = tt

pub returns : goal.returns
returns c =
    let self = c.args.self.now in
    let one : Entry = record { buffers = c.args.buffers; service = c.args.service } in
    let grown = ap (map lent_of) c.in-Ok.ensures.items ∙ map-append lent_of (vec_items self.entries) (one ∷ []) in
    let room = places_in self.shelf self.length in
    record {
      answer = subst (λ (made : List Lent). Serves self.kind room made c.replay.result) grown c.replay.ensures;
      kept = keeps c.replay.result (ap (λ (made : List Lent). (self.kind, room, made)) grown);
    }
