use Rattle.std.proofs.Common.{◌≡◌, length, subst, rules}
use Rattle.ring.specs.Places.{places, key_in}
use Rattle.station.specs.Redeeming.{Redeems}
use Rattle.history.proofs.Lengths.{redeem_bounded, lent}
use Rattle.history.proofs.making.Buffers.redeem.Goals as goal

pub returns : goal.returns
returns g c =
    let long : length c.args.self.now.scratch ≡ 1024 = search rules in
    let e = c.redeem.ensures in
    record {
      answer = subst (λ w. Redeems w (g.B.Book.meaning c.args.station.now.book) c.redeem.result (g.B.Book.meaning c.redeem.new.self.book))
          (redeem_bounded g.G.Group.model c.args.scratch _ (key_in (places c.args.station.now.ring)) c.args.token.now
          (lent c.args.scratch c.min.result 1024 c.args.self.now.scratch long c.min.ensures))
          e.answer;
      ring = e.ring;
    }
