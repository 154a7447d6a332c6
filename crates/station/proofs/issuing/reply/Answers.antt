use Rattle.std.proofs.Common.{◌≡◌, ℕ, ◌*◌, List, length, Ok, Err, sym, ap, ◌∙◌}
use Rattle.std.proofs.lemmas.Nat.{mul-le}
use Rattle.std.proofs.lemmas.List.{length-take-le}
use Rattle.std.proofs.lemmas.Result.{err_from_is_err_and}
use Rattle.numbers.specs.Writing.{put_so_far}
use Rattle.scalar.specs.Scalars.{scalar_code}
use Rattle.scalar.proofs.Codes.{code_length}
use Rattle.voprf.specs.Blinding.{public_key}
use Rattle.voprf.specs.Proving.{proved}
use Rattle.messages.specs.Answers.{over}
use Rattle.messages.specs.Messages.{reply_bytes, reply_length}
use Rattle.messages.specs.Views.{batch}
use Rattle.messages.proofs.Ruled.{same_answer}
use Rattle.messages.proofs.Writing.{reply_bytes_length}
use Rattle.station.specs.Issuing.{Order, reply_counted, reply_laid}
use Rattle.station.proofs.Checks.{never}
use Rattle.station.proofs.Replies.{writes, answers_by, items_stop, proof_stops, replies}
use Rattle.station.proofs.issuing.reply.Goals as goal

pub returns-in_err-answer_items : goal.returns-in_err-answer_items
returns-in_err-answer_items g c =
    let m = g.G.Group.model in
    let p = err_from_is_err_and c.from_residual.result c.from_residual.ensures.1 in
    let stop = items_stop m (record { batch = batch c.args.request; key = c.args.key; nonce = c.args.nonce }) c.in_err-answer_items.field-0.0
    c.in_err-answer_items.ensures.codes in
    record {
      answer = p.1 ∙ ap (λ e. Err e) p.2 ∙ sym (ap reply_counted stop);
      outlet = sym (ap (λ r. reply_laid r c.args.outlet.now) stop);
    }

pub returns-in_err-c : goal.returns-in_err-c
returns-in_err-c g c =
    let m = g.G.Group.model in
    let p = err_from_is_err_and c.from_residual-in_err-c.result c.from_residual-in_err-c.ensures.1 in
    let codes = put_so_far c.answer_items.new.codes in
    let items = c.args.request.items.now in
    let refused = c.in_err-c.ensures
    ∙ ap (λ pk. proved m c.args.key c.args.nonce pk items c.as_slice-items.result.now) c.public.ensures
    ∙ ap (proved m c.args.key c.args.nonce (public_key m c.args.key) items) c.as_slice-items.ensures in
    let stop = proof_stops m (record { batch = batch c.args.request; key = c.args.key; nonce = c.args.nonce }) codes c.in_err-c.field-0.0
    c.in_ok-answer_items.ensures.codes refused in
    record {
      answer = p.1 ∙ ap (λ e. Err e) p.2 ∙ sym (ap reply_counted stop);
      outlet = sym (ap (λ r. reply_laid r c.args.outlet.now) stop);
    }

pub returns-in_err-len : goal.returns-in_err-len
returns-in_err-len g c =
    let m = g.G.Group.model in
    let n = c.args.request.count in
    let few = c.requires.few in
    let narrow = m.element_fits in
    let most = mul-le n m.element_width 16 8 few narrow in
    let codes = c.as_slice-items.result.now in
    let whole : length codes ≡ n * m.element_width =
    ap length c.as_slice-items.ensures
    ∙ length-take-le c.answer_items.new.codes.len c.answer_items.new.codes.bytes.now c.answer_items.new.codes.within
    ∙ c.in_ok-answer_items.ensures.len in
    let wrote = writes m (record { epoch = c.args.request.epoch; count = n; items = codes; challenge = c.as_slice.result.now; response = c.as_slice-2.result.now })
    (length c.args.outlet.now) c.requires.some few whole
    (ap length (c.as_slice.ensures ∙ c.encode_scalar.ensures) ∙ code_length m.scalars c.in_ok-c.c)
    (ap length (c.as_slice-2.ensures ∙ c.encode_scalar-2.ensures) ∙ code_length m.scalars c.in_ok-c.s) c.requires.fits in
    never _ _ (c.in_err-len.ensures.written ∙ wrote)

pub returns : goal.returns
returns g c =
    let m = g.G.Group.model in
    let n = c.args.request.count in
    let few = c.requires.few in
    let row = put_so_far c.answer_items.new.codes in
    let codes = c.as_slice-items.result.now in
    let same : codes ≡ row = c.as_slice-items.ensures in
    let items = c.args.request.items.now in
    let outlet = c.args.outlet.now in
    let o : Order g.row.G-NonZero.Denot = record { batch = batch c.args.request; key = c.args.key; nonce = c.args.nonce } in
    let whole : length row ≡ n * m.element_width =
    length-take-le c.answer_items.new.codes.len c.answer_items.new.codes.bytes.now c.answer_items.new.codes.within
    ∙ c.in_ok-answer_items.ensures.len in
    let challenge : c.as_slice.result.now ≡ scalar_code m.scalars c.in_ok-c.c = c.as_slice.ensures ∙ c.encode_scalar.ensures in
    let response : c.as_slice-2.result.now ≡ scalar_code m.scalars c.in_ok-c.s = c.as_slice-2.ensures ∙ c.encode_scalar-2.ensures in
    let c-long : length c.as_slice.result.now ≡ m.scalars.width = ap length challenge ∙ code_length m.scalars c.in_ok-c.c in
    let s-long : length c.as_slice-2.result.now ≡ m.scalars.width = ap length response ∙ code_length m.scalars c.in_ok-c.s in
    let made = c.in_ok-c.ensures
    ∙ ap (λ pk. proved m c.args.key c.args.nonce pk items codes) c.public.ensures
    ∙ ap (proved m c.args.key c.args.nonce (public_key m c.args.key) items) same in
    let done = replies m o row (c.in_ok-c.c, c.in_ok-c.s) c.in_ok-answer_items.ensures.codes made in
    let wrote = writes m (record { epoch = c.args.request.epoch; count = n; items = codes; challenge = c.as_slice.result.now; response = c.as_slice-2.result.now })
    (length outlet) c.requires.some few (ap length same ∙ whole) c-long s-long c.requires.fits in
    let long : c.in_ok-len.len ≡ reply_length m n = same_answer _ _ (c.in_ok-len.ensures.written ∙ wrote) in
    let laid : List ℕ → List ℕ → List ℕ → List ℕ = λ r x y.
    over (reply_bytes m (record { epoch = c.args.request.epoch; count = n; items = r; challenge = x; response = y })) outlet in
    record {
      answer =
          ap (λ (k : ℕ). Ok k)
          (long ∙ sym (reply_bytes_length m (answers_by m o row (c.in_ok-c.c, c.in_ok-c.s)) whole
          (code_length m.scalars c.in_ok-c.c) (code_length m.scalars c.in_ok-c.s)))
          ∙ sym (ap reply_counted done);
      outlet =
          c.in_ok-len.ensures.out
          ∙ ap (λ (r : List ℕ). laid r c.as_slice.result.now c.as_slice-2.result.now) same
          ∙ ap (λ (x : List ℕ). laid row x c.as_slice-2.result.now) challenge
          ∙ ap (λ (y : List ℕ). laid row (scalar_code m.scalars c.in_ok-c.c) y) response
          ∙ sym (ap (λ r. reply_laid r outlet) done);
    }
