use Rattle.std.proofs.Common.{◌≡◌, ◌<◌, ◌≤◌, length, sym, arith, rules}
use Rattle.std.proofs.lemmas.Result.{err_from_is_err_and}
use Rattle.messages.specs.Messages.{reply_length}
use Rattle.messages.specs.Views.{batch}
use Rattle.messages.proofs.Trips.{request_told}
use Rattle.ring.specs.Places.{places, key_in}
use Rattle.station.specs.Issuing.{accepted}
use Rattle.station.proofs.Checks.{bad_nonce, short_outlet, all_passed}
use Rattle.station.proofs.issuing.accept.Goals as goal

pub returns-then-scratch-lt-ENOUGH : goal.returns-then-scratch-lt-ENOUGH
unfolding accepted
returns-then-scratch-lt-ENOUGH g c = search rules

pub returns-in_err-request : goal.returns-in_err-request
unfolding accepted
returns-in_err-request g c = search rules

pub returns-in_err-key : goal.returns-in_err-key
unfolding accepted
returns-in_err-key g c = search rules

pub returns-then-nonce-scalar_width : goal.returns-then-nonce-scalar_width
unfolding accepted
returns-then-nonce-scalar_width g c = search rules

pub returns-in_err-nonce : goal.returns-in_err-nonce
returns-in_err-nonce g c =
    let m = g.G.Group.model in
    let long : length c.args.nonce.now ≡ m.scalars.width = omega (arith, c.scalar_width.ensures) in
    let p = err_from_is_err_and c.from_residual-in_err-nonce.result c.from_residual-in_err-nonce.ensures.1 in
    let stop = bad_nonce m c.args.scratch (key_in (places c.args.ring.now)) c.args.request.now c.args.nonce.now c.args.outlet
    (batch c.in_ok-request.request) c.in_ok-key.key c.if-scratch-lt-ENOUGH.false c.in_ok-request.ensures c.in_ok-key.ensures
    long c.in_err-nonce.field-0.0 c.in_err-nonce.ensures in
    rw (p.1, p.2) (record { answer = sym stop; known = tt })

pub returns-then-outlet-reply_len : goal.returns-then-outlet-reply_len
returns-then-outlet-reply_len g c =
    let m = g.G.Group.model in
    let long : length c.args.nonce.now ≡ m.scalars.width = omega (arith, c.scalar_width.ensures) in
    let short : c.args.outlet < reply_length m c.in_ok-request.request.count = omega (arith, c.reply_len.ensures) in
    let stop = short_outlet m c.args.scratch (key_in (places c.args.ring.now)) c.args.request.now c.args.nonce.now c.args.outlet
    (batch c.in_ok-request.request) c.in_ok-key.key c.if-scratch-lt-ENOUGH.false c.in_ok-request.ensures c.in_ok-key.ensures
    long c.in_ok-nonce.nonce c.in_ok-nonce.ensures short in
    record { answer = sym stop; known = tt }

pub returns : goal.returns
returns g c =
    let m = g.G.Group.model in
    let long : length c.args.nonce.now ≡ m.scalars.width = omega (arith, c.scalar_width.ensures) in
    let fits : reply_length m c.in_ok-request.request.count ≤ c.args.outlet = omega (arith, c.reply_len.ensures) in
    let told = request_told m c.args.request.now (batch c.in_ok-request.request) (sym c.in_ok-request.ensures) in
    let all = all_passed m c.args.scratch (key_in (places c.args.ring.now)) c.args.request.now c.args.nonce.now c.args.outlet
    (batch c.in_ok-request.request) c.in_ok-key.key c.if-scratch-lt-ENOUGH.false c.in_ok-request.ensures c.in_ok-key.ensures
    long c.in_ok-nonce.nonce c.in_ok-nonce.ensures fits in
    record {
      answer = sym all;
      known = record { room = c.if-scratch-lt-ENOUGH.false; some = told.2; few = told.3; whole = told.5; fits = fits };
    }
