-- Each call keeps what the station holds to what the history says.
use Rattle.std.proofs.Common.{◌≡◌, ◌∷◌, sym, ap, subst, rules, tests}
use Rattle.ring.specs.Places.{places}
use Rattle.history.specs.Events.{event, told, number}
use Rattle.history.specs.Kept.{Kept}
use Rattle.history.specs.Told.{number_told, done_told}
use Rattle.history.specs.declared.calls.Call.TheVariants.{Open}
use Rattle.history.proofs.Next.{next_count, next_open, next_close, next_issue, next_redeem}
use Rattle.history.proofs.make.Goals as goal

pub returns-in-Count : goal.returns-in-Count
returns-in-Count g c = λ capacity h k.
    let s = c.args.station.now in
    subst (λ x. Kept g.G.Group.model capacity (event x (number c.count.result) ∷ h) (places s.ring) s.ring.latest (g.B.Book.meaning s.book)) (sym c.in-Count.is)
    (next_count g.G.Group.model capacity h s.ring (g.B.Book.meaning s.book) k (number c.count.result) (ap number c.count.ensures))

pub returns-in-Open : goal.returns-in-Open
returns-in-Open g c = λ capacity h k.
    let s = c.args.station.now in
    let t = c.open.new.station in
    let e = c.open.ensures in
    let a = c.in-Open in
    subst (λ x. Kept g.G.Group.model capacity (event x (told c.open.result) ∷ h) (places t.ring) t.ring.latest (g.B.Book.meaning t.book)) (sym a.is)
    (subst (λ b. Kept g.G.Group.model capacity (event (Open a.scratch a.epoch a.key a.outlet) (told c.open.result) ∷ h) (places t.ring) t.ring.latest (g.B.Book.meaning b)) (sym e.book)
    (next_open g.G.Group.model capacity h s.ring (g.B.Book.meaning s.book) k a.scratch a.epoch a.outlet a.key (told c.open.result) t.ring e.told e.places e.latest))

pub returns-in-Close : goal.returns-in-Close
returns-in-Close g c = λ capacity h k.
    let s = c.args.station.now in
    let t = c.close.new.self in
    let e = c.close.ensures in
    let a = c.in-Close in
    let said : told c.map.result ≡ number_told c.close.result = search (rules, tests) in
    subst (λ x. Kept g.G.Group.model capacity (event x (told c.map.result) ∷ h) (places t.ring) t.ring.latest (g.B.Book.meaning t.book)) (sym a.is)
    (next_close g.G.Group.model capacity h s.ring (g.B.Book.meaning s.book) k a.epoch c.close.result (told c.map.result) t.ring (g.B.Book.meaning t.book)
    said e.answer e.places e.latest)

pub returns-in-Issue : goal.returns-in-Issue
returns-in-Issue g c = λ capacity h k.
    let s = c.args.station.now in
    let a = c.in-Issue in
    subst (λ x. Kept g.G.Group.model capacity (event x (told c.issue.result) ∷ h) (places s.ring) s.ring.latest (g.B.Book.meaning s.book)) (sym a.is)
    (next_issue g.G.Group.model capacity h s.ring (g.B.Book.meaning s.book) k a.scratch a.outlet a.request a.nonce (told c.issue.result) c.issue.ensures)

pub returns-in-Redeem : goal.returns-in-Redeem
returns-in-Redeem g c = λ capacity h k.
    let s = c.args.station.now in
    let t = c.redeem.new.station in
    let e = c.redeem.ensures in
    let a = c.in-Redeem in
    let said : told c.map-in-Redeem.result ≡ done_told c.redeem.result = search (rules, tests) in
    subst (λ x. Kept g.G.Group.model capacity (event x (told c.map-in-Redeem.result) ∷ h) (places t.ring) t.ring.latest (g.B.Book.meaning t.book)) (sym a.is)
    (next_redeem g.G.Group.model capacity h s.ring (g.B.Book.meaning s.book) k a.scratch a.token c.redeem.result (told c.map-in-Redeem.result) t.ring (g.B.Book.meaning t.book)
    said e.answer e.ring)
