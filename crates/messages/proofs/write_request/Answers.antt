use Rattle.std.proofs.Common.{ℕ, ◌*◌, length, Ok, sym, refl, ap, ◌∙◌, arith, rules}
use Rattle.numbers.proofs.Writing.{and_then}
use Rattle.messages.specs.Messages.{place, request_length, request_bytes}
use Rattle.messages.specs.Views.{batch}
use Rattle.messages.proofs.Reading.{counted, uncounted}
use Rattle.messages.proofs.Writing.{head_length, request_uncounted, request_mislong, request_narrow, request_fits, written_over}
use Rattle.messages.proofs.write_request.Goals as goal

pub returns-then-request-eq0 : goal.returns-then-request-eq0
returns-then-request-eq0 g c =
    let q = batch c.args.request in
    record {
      written = sym (request_uncounted g.G.Group.model q (length c.args.out.now) (uncounted q.count c.then-request-eq0.either));
      out = refl;
    }

pub returns-then-request-element_width : goal.returns-then-request-element_width
returns-then-request-element_width g c =
    let q = batch c.args.request in
    record {
      written =
          sym (request_mislong g.G.Group.model q (length c.args.out.now) (counted q.count (omega arith) (omega arith))
          (λ l. c.if-request-element_width.true (l ∙ ap (λ (w : ℕ). q.count * w) (sym c.element_width.ensures))));
      out = refl;
    }

pub returns-then-out-len : goal.returns-then-out-len
returns-then-out-len g c =
    let q = batch c.args.request in
    record {
      written =
          sym (request_narrow g.G.Group.model q (length c.args.out.now) (counted q.count (omega arith) (omega arith))
          (c.if-request-element_width.false ∙ ap (λ (w : ℕ). q.count * w) c.element_width.ensures) (let len = c.request_len-len.ensures in omega arith));
      out = refl;
    }

pub put_head-requires : goal.put_head-requires
unfolding request_length place
put_head-requires g c = omega (arith, ap length c.new-message.ensures.bytes, c.request_len-len.ensures)

pub put-requires : goal.put-requires
unfolding request_length place
put-requires g c =
    let head = c.put_head.ensures in
    omega (
      arith,
      ap length c.new-message.ensures.bytes,
      head_length g.G.Group.model.kind c.args.request.epoch c.args.request.count,
      c.request_len-len.ensures,
      c.if-request-element_width.false ∙ ap (λ (w : ℕ). c.args.request.count * w) c.element_width.ensures,
    )

pub returns-clause-written : goal.returns-clause-written
returns-clause-written g c =
    let m = g.G.Group.model in
    let q = batch c.args.request in
    let len = c.request_len-len.ensures in
    ap (λ n. Ok n) len ∙
    sym (request_fits m q (length c.args.out.now) (counted q.count (omega arith) (omega arith))
    (c.if-request-element_width.false ∙ ap (λ (w : ℕ). q.count * w) c.element_width.ensures) (omega arith))

pub returns-clause-out : goal.returns-clause-out
unfolding request_bytes
returns-clause-out g c =
    let all = and_then c.put_head.ensures c.put.ensures in
    let lent = all.lent ∙ c.new-message.ensures.lent in
    let last = written_over c.args.out.now c.new-message.ensures.bytes c.new-message.ensures.parts c.new-message.ensures.len all in
    search rules
