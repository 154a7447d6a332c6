-- What a line of the client comes to, from what the client answered. Assumes nothing.
use Rattle.std.proofs.Common.{◌≡◌, ℕ, ◌*◌, ◌/◌, true, false, List, length, take, drop, is_some, Some, None, Ok, Err, Option, Result, sym, refl, ap, ◌∙◌}
use lib.Seq.{take-append_seam}
use Rattle.std.proofs.lemmas.Bool.{both_ways}
use Rattle.client.specs.Batches.{outlet_after}
use Rattle.client.specs.Blinding.{begun}
use Rattle.client.specs.Finishing.{finished}
use Rattle.client.specs.declared.pending.Pending.{Pending}
use Rattle.circ523.specs.Kind.{points}
use Rattle.res2039.specs.Kind.{residues}
use Rattle.commands.specs.declared.Kind.{Kind}
use Rattle.commands.specs.declared.Kind.TheVariants.{Res2039, Circ523}
use Rattle.faults.specs.declared.BatchFault.{BatchFault}
use Rattle.messages.proofs.Ruled.{same_answer}
use Rattle.messages.specs.Answers.{over}
use Rattle.script.specs.Reports.{bytes}
use Rattle.counter.specs.Orders.{Waiting, waiting, blind_in, finish_in, Begins, begun_turn, blind_turn, ended_turn, finish_turn}
use Rattle.counter.proofs.Lengths.{tokens_long}
use Rattle.client.proofs.Following.{ok_err}

-- a batch that was begun
pub begins : (a : Result (List ℕ) BatchFault) (epoch n : ℕ) (p : Pending) (long : ℕ) → Ok (p.epoch, p.count) ≡ begun epoch n a →
    ((request : List ℕ) → a ≡ Ok request → long ≡ length request) → Begins a epoch n (Ok (p, long))
begins (Ok request) epoch n p long e l =
    let same = same_answer (p.epoch, p.count) (epoch, n) e in
    (ap (λ (b : ℕ × ℕ). b.0) same, ap (λ (b : ℕ × ℕ). b.1) same, l request refl)
begins (Err f) epoch n p long e l = absurd (ok_err e)

-- the front of an outlet that was written is what was written
front : (request old : List ℕ) → take (length request) (over request old) ≡ request
unfolding over
front request old = take-append_seam request (drop (length request) old)

-- its turn, with as much of the outlet as was written
pub begun_says : (a : Result (List ℕ) BatchFault) (epoch n : ℕ) (b : Pending × ℕ) (old after : List ℕ) → Begins a epoch n (Ok b) → after ≡ outlet_after a old →
    begun_turn epoch n a ≡ (Ok (Ok (bytes (take b.1 after))), Some (b.0.epoch, b.0.count))
begun_says (Ok request) epoch n b old after (e, k, l) laid = rw (laid, l, e, k) (ap (λ (r : List ℕ). (Ok (Ok (bytes r)), Some (epoch, n))) (sym (front request old)))
begun_says (Err f) epoch n b old after never laid = absurd never

-- none is pending
pub none_waits : (o : Option Pending) → is_some o ≡ false → waiting o ≡ None
none_waits None e = refl
none_waits (Some p) e = absurd (both_ways true e refl)

-- a line that blinds, with the lengths of its buffers in hand
pub blind_says : (k : Kind) (scratch outlet epoch : ℕ) (pk seeds blinds : List ℕ) (w : Waiting) (s o : ℕ) (b : Pending × ℕ) (old after request : List ℕ) →
    w ≡ None → s ≡ scratch → o ≡ outlet → Begins (blind_in k s epoch pk seeds blinds o) epoch (length seeds / 64) (Ok b) →
    after ≡ outlet_after (blind_in k s epoch pk seeds blinds o) old → request ≡ take b.1 after →
    blind_turn k scratch outlet w epoch pk seeds blinds ≡ (Ok (Ok (bytes request)), Some (b.0.epoch, b.0.count))
blind_says k scratch outlet epoch pk seeds blinds w s o b old after request none long wide begun laid shown =
    ap (λ (x : Waiting). blind_turn k scratch outlet x epoch pk seeds blinds) none
    ∙ ap (λ (x : ℕ). begun_turn epoch (length seeds / 64) (blind_in k x epoch pk seeds blinds outlet)) (sym long)
    ∙ ap (λ (x : ℕ). begun_turn epoch (length seeds / 64) (blind_in k s epoch pk seeds blinds x)) (sym wide)
    ∙ begun_says (blind_in k s epoch pk seeds blinds o) epoch (length seeds / 64) b old after begun laid
    ∙ ap (λ (x : List ℕ). (Ok (Ok (bytes x)), Some (b.0.epoch, b.0.count))) (sym shown)

-- a batch that was ended, with as much of the outlet as was written
ended_says : (a : Result (List ℕ) BatchFault) (p : Pending) (n : ℕ) (old after : List ℕ) → Ok n ≡ finished p a → after ≡ outlet_after a old →
    ((tokens : List ℕ) → a ≡ Ok tokens → length tokens ≡ 132 * p.count) →
    ended_turn (p.epoch, p.count) a ≡ (Ok (Ok (bytes (take (132 * n) after))), None)
ended_says (Ok tokens) p n old after told laid long =
    let many : 132 * n ≡ length tokens = ap (λ (k : ℕ). 132 * k) (same_answer n p.count told) ∙ sym (long tokens refl) in
    rw (laid, many) (ap (λ (r : List ℕ). (Ok (Ok (bytes r)), None)) (sym (front tokens old)))
ended_says (Err f) p n old after told laid long = absurd (ok_err told)

-- the tokens in the chosen group
tokens_long_in : (k : Kind) (scratch epoch n : ℕ) (pk seeds blinds reply tokens : List ℕ) (outlet : ℕ) →
    finish_in k scratch epoch n pk seeds blinds reply outlet ≡ Ok tokens → length tokens ≡ 132 * n
unfolding finish_in
tokens_long_in Res2039 scratch epoch n pk seeds blinds reply tokens outlet e = tokens_long residues scratch epoch n pk seeds blinds reply tokens outlet e
tokens_long_in Circ523 scratch epoch n pk seeds blinds reply tokens outlet e = tokens_long points scratch epoch n pk seeds blinds reply tokens outlet e

-- a line that finishes, with the lengths of its buffers in hand
pub finish_says : (k : Kind) (scratch outlet : ℕ) (pk seeds blinds reply : List ℕ) (w : Waiting) (s o : ℕ) (p : Pending) (n : ℕ) (old after tokens : List ℕ) →
    w ≡ Some (p.epoch, p.count) → s ≡ scratch → o ≡ outlet → Ok n ≡ finished p (finish_in k s p.epoch p.count pk seeds blinds reply o) →
    after ≡ outlet_after (finish_in k s p.epoch p.count pk seeds blinds reply o) old → tokens ≡ take (132 * n) after →
    finish_turn k scratch outlet w pk seeds blinds reply ≡ (Ok (Ok (bytes tokens)), None)
finish_says k scratch outlet pk seeds blinds reply w s o p n old after tokens some long wide told laid shown =
    let b : ℕ × ℕ = (p.epoch, p.count) in
    ap (λ (x : Waiting). finish_turn k scratch outlet x pk seeds blinds reply) some
    ∙ ap (λ (x : ℕ). ended_turn b (finish_in k x p.epoch p.count pk seeds blinds reply outlet)) (sym long)
    ∙ ap (λ (x : ℕ). ended_turn b (finish_in k s p.epoch p.count pk seeds blinds reply x)) (sym wide)
    ∙ ended_says (finish_in k s p.epoch p.count pk seeds blinds reply o) p n old after told laid (λ t e. tokens_long_in k s p.epoch p.count pk seeds blinds reply t o e)
    ∙ ap (λ (x : List ℕ). (Ok (Ok (bytes x)), None)) (sym shown)
