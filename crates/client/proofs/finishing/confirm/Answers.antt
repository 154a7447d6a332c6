use Rattle.std.proofs.Common.{sym, ◌∙◌}
use Rattle.std.proofs.lemmas.Result.{err_from_is_err_and}
use Rattle.messages.specs.Messages.{Answers}
use Rattle.client.proofs.Finishes.{items_stop, c_stops, s_stops, judged}
use Rattle.client.proofs.finishing.confirm.Goals as goal

pub returns-in_err-walk : goal.returns-in_err-walk
returns-in_err-walk g c =
    let b = c.args.batch.now in
    let got : Answers = record { epoch = b.epoch; count = b.count; items = b.answers.now; challenge = c.args.challenge.now; response = c.args.response.now } in
    let p = err_from_is_err_and c.from_residual.result c.from_residual.ensures.1 in
    rw (p.1, p.2) (sym (items_stop g.G.Group.model c.args.pk b.id.now b.seeds.now b.blinds.now got c.in_err-walk.field-0.0 c.in_err-walk.ensures))

pub returns-in_err-c : goal.returns-in_err-c
returns-in_err-c g c =
    let b = c.args.batch.now in
    let got : Answers = record { epoch = b.epoch; count = b.count; items = b.answers.now; challenge = c.args.challenge.now; response = c.args.response.now } in
    let p = err_from_is_err_and c.from_residual-in_err-c.result c.from_residual-in_err-c.ensures.1 in
    rw (p.1, p.2) (sym (c_stops g.G.Group.model c.args.pk b.id.now b.seeds.now b.blinds.now got c.walk.new.out c.in_ok-walk.ensures
    c.in_err-c.field-0.0 c.in_err-c.ensures))

pub returns-in_err-s : goal.returns-in_err-s
returns-in_err-s g c =
    let b = c.args.batch.now in
    let got : Answers = record { epoch = b.epoch; count = b.count; items = b.answers.now; challenge = c.args.challenge.now; response = c.args.response.now } in
    let p = err_from_is_err_and c.from_residual-in_err-s.result c.from_residual-in_err-s.ensures.1 in
    rw (p.1, p.2) (sym (s_stops g.G.Group.model c.args.pk b.id.now b.seeds.now b.blinds.now got c.walk.new.out c.in_ok-walk.ensures
    c.in_ok-c.c c.in_ok-c.ensures c.in_err-s.field-0.0 c.in_err-s.ensures))

pub returns : goal.returns
returns g c =
    let b = c.args.batch.now in
    let got : Answers = record { epoch = b.epoch; count = b.count; items = b.answers.now; challenge = c.args.challenge.now; response = c.args.response.now } in
    c.check.ensures
    ∙ sym (judged g.G.Group.model c.args.pk b.id.now b.seeds.now b.blinds.now got c.walk.new.out c.in_ok-walk.ensures c.in_ok-c.c c.in_ok-c.ensures
    c.in_ok-s.s c.in_ok-s.ensures)
