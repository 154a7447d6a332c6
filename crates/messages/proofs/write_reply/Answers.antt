use Rattle.std.proofs.Common.{ℕ, ◌*◌, length, Ok, sym, refl, ap, ◌∙◌, arith, rules}
use Rattle.numbers.proofs.Writing.{and_then}
use Rattle.messages.specs.Messages.{place, reply_length, reply_bytes}
use Rattle.messages.specs.Views.{answers}
use Rattle.messages.proofs.Reading.{counted, uncounted}
use Rattle.messages.proofs.Writing.{head_length, reply_uncounted, reply_mislong, challenge_mislong, response_mislong, reply_narrow, reply_fits, written_over}
use Rattle.messages.proofs.write_reply.Goals as goal
use Rattle.messages.proofs.write_reply.Goals.{then-reply-width-via-then-reply-width, then-reply-width-via-else-reply-width+then-reply-width-2}

pub returns-then-reply-eq0 : goal.returns-then-reply-eq0
returns-then-reply-eq0 g c =
    let q = answers c.args.reply in
    record {
      written = sym (reply_uncounted g.G.Group.model q (length c.args.out.now) (uncounted q.count c.then-reply-eq0.either));
      out = refl;
    }

pub returns-then-reply-element_width : goal.returns-then-reply-element_width
returns-then-reply-element_width g c =
    let q = answers c.args.reply in
    record {
      written =
          sym (reply_mislong g.G.Group.model q (length c.args.out.now) (counted q.count (omega arith) (omega arith))
          (λ l. c.if-reply-element_width.true (l ∙ ap (λ (w : ℕ). q.count * w) (sym c.element_width.ensures))));
      out = refl;
    }

pub returns-then-reply-width : goal.returns-then-reply-width
returns-then-reply-width g c =
    let m = g.G.Group.model in
    let q = answers c.args.reply in
    let room = length c.args.out.now in
    let n = counted q.count (omega arith) (omega arith) in
    let long = c.if-reply-element_width.false ∙ ap (λ (w : ℕ). q.count * w) c.element_width.ensures in
    let wide = c.scalar_width-width.ensures in
    record {
      written =
          elim c.then-reply-width.branch [
            | then-reply-width-via-then-reply-width w ↦ sym (challenge_mislong m q room n long (λ l. w.if-reply-width.true (l ∙ sym wide)))
            | then-reply-width-via-else-reply-width+then-reply-width-2 w ↦
                sym (response_mislong m q room n long (w.if-reply-width.false ∙ wide) (λ l. w.if-reply-width-2.true (l ∙ sym wide)))
          ];
      out = refl;
    }

pub returns-then-out-len : goal.returns-then-out-len
returns-then-out-len g c =
    let m = g.G.Group.model in
    let q = answers c.args.reply in
    let wide = c.scalar_width-width.ensures in
    record {
      written =
          sym (reply_narrow m q (length c.args.out.now) (counted q.count (omega arith) (omega arith))
          (c.if-reply-element_width.false ∙ ap (λ (w : ℕ). q.count * w) c.element_width.ensures)
          (c.if-reply-width.false ∙ wide) (c.if-reply-width-2.false ∙ wide) (let len = c.reply_len-len.ensures in omega arith));
      out = refl;
    }

pub put_head-requires : goal.put_head-requires
unfolding reply_length place
put_head-requires g c = omega (arith, ap length c.new-message.ensures.bytes, c.reply_len-len.ensures)

pub put-requires : goal.put-requires
unfolding reply_length place
put-requires g c =
    let head = c.put_head.ensures in
    omega (
      arith,
      ap length c.new-message.ensures.bytes,
      head_length g.G.Group.model.kind c.args.reply.epoch c.args.reply.count,
      c.reply_len-len.ensures,
      c.if-reply-element_width.false ∙ ap (λ (w : ℕ). c.args.reply.count * w) c.element_width.ensures,
      c.scalar_width-width.ensures,
    )

pub put-requires-2 : goal.put-requires-2
unfolding reply_length place
put-requires-2 g c =
    let head = c.put_head.ensures in
    omega (
      arith,
      ap length c.new-message.ensures.bytes,
      head_length g.G.Group.model.kind c.args.reply.epoch c.args.reply.count,
      c.reply_len-len.ensures,
      c.if-reply-element_width.false ∙ ap (λ (w : ℕ). c.args.reply.count * w) c.element_width.ensures,
      c.scalar_width-width.ensures,
    )

pub put-requires-3 : goal.put-requires-3
unfolding reply_length place
put-requires-3 g c =
    let head = c.put_head.ensures in
    omega (
      arith,
      ap length c.new-message.ensures.bytes,
      head_length g.G.Group.model.kind c.args.reply.epoch c.args.reply.count,
      c.reply_len-len.ensures,
      c.if-reply-element_width.false ∙ ap (λ (w : ℕ). c.args.reply.count * w) c.element_width.ensures,
      c.scalar_width-width.ensures,
    )

pub returns-clause-written : goal.returns-clause-written
returns-clause-written g c =
    let m = g.G.Group.model in
    let q = answers c.args.reply in
    let wide = c.scalar_width-width.ensures in
    let len = c.reply_len-len.ensures in
    ap (λ n. Ok n) len ∙
    sym (reply_fits m q (length c.args.out.now) (counted q.count (omega arith) (omega arith))
    (c.if-reply-element_width.false ∙ ap (λ (w : ℕ). q.count * w) c.element_width.ensures)
    (c.if-reply-width.false ∙ wide) (c.if-reply-width-2.false ∙ wide) (omega arith))

pub returns-clause-out : goal.returns-clause-out
unfolding reply_bytes
returns-clause-out g c =
    let all = and_then c.put_head.ensures (and_then c.put.ensures (and_then c.put-2.ensures c.put-3.ensures)) in
    let lent = all.lent ∙ c.new-message.ensures.lent in
    let last = written_over c.args.out.now c.new-message.ensures.bytes c.new-message.ensures.parts c.new-message.ensures.len all in
    search rules
