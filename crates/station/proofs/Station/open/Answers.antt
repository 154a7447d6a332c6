use Rattle.std.proofs.Common.{◌≡◌, ℕ, ◌-◌, List, ◌++◌, length, drop, Ok, sym, ap, ◌∙◌, arith, rules}
use Rattle.voprf.specs.Blinding.{public_key}
use Rattle.messages.specs.Answers.{over}
use Rattle.ring.specs.Places.{places, admits}
use Rattle.station.specs.Answers.{opening, published, counted, outlet_after, places_after, latest_after}
use Rattle.station.proofs.Checks.{never, opening_admits}
use Rattle.station.proofs.Station.open.Goals as goal

pub returns-in_err-open : goal.returns-in_err-open
returns-in_err-open g c =
    let admitted = opening_admits g.G.Group.model (length c.args.scratch.now) (admits c.args.self.now.ring c.args.epoch) c.args.key.now
    (length c.args.outlet.now) c.in_ok-key.key c.in_ok-key.ensures.answer in
    never _ _ (c.in_err-open.ensures.answer ∙ admitted)

pub returns : goal.returns
unfolding over
returns g c =
    let m = g.G.Group.model in
    let outlet = c.args.outlet.now in
    let k = c.in_ok-key.key in
    let given : opening m (length c.args.scratch.now) (admits c.args.self.now.ring c.args.epoch) c.args.key.now (length outlet) ≡ Ok k =
    sym c.in_ok-key.ensures.answer in
    let pk = m.code (public_key m k) in
    let wide : c.as_slice-width.result.now ≡ pk = c.as_slice-width.ensures ∙ c.encode-pk.ensures ∙ ap m.code c.public.ensures in
    let copied : c.copy_from_slice.new.self ≡ pk = c.copy_from_slice.ensures.after ∙ c.as_slice.ensures ∙ c.encode-pk.ensures ∙ ap m.code c.public.ensures in
    let width : length c.as_slice-width.result.now - 0 ≡ length pk = (let l = ap length wide in omega arith) in
    record {
      answer = ap (λ (l : List ℕ). Ok (length l)) wide ∙ sym (ap (λ r. counted (published m r)) given);
      outlet =
          ap (λ (l : List ℕ). l ++ drop (length c.as_slice-width.result.now - 0) outlet) copied
          ∙ ap (λ (n : ℕ). pk ++ drop n outlet) width
          ∙ sym (ap (λ r. outlet_after (published m r) outlet) given);
      scratch = search rules;
      places = c.in_ok-open.ensures.places ∙ sym (ap (λ r. places_after r c.args.epoch (places c.args.self.now.ring)) given);
      latest = c.in_ok-open.ensures.latest ∙ sym (ap (λ r. latest_after r c.args.epoch c.args.self.now.ring.latest) given);
      book = search rules;
    }
