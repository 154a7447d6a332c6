use Rattle.std.proofs.Common.{◌≡◌, ℕ, ◌-◌, [], ◌∷◌, ◌++◌, length, ap, ◌∙◌, arith, length-append}
use Rattle.digest.specs.Sha256.{sha256}
use Rattle.numbers.specs.Writing.{put_so_far}
use Rattle.numbers.proofs.Writing.{and_then}
use Rattle.hashing.specs.Hashing.{context_string, tagged}
use Rattle.hashing.proofs.hash_tagged.Goals as goal

pub returns-clause-hash : goal.returns-clause-hash
unfolding tagged
returns-clause-hash g c =
    let m = g.G.Group.model in
    let label = c.args.label.now in
    let message = put_so_far c.args.transcript.now in
    let named = and_then c.put.ensures c.put_context.ensures.put in
    let long : length c.as_slice.result.now - length c.as_slice-message.result.now ≡ length (label ++ context_string m) =
    omega (
      arith,
      ap length c.as_slice-message.ensures,
      ap length (c.as_slice.ensures ∙ named.parts),
      length-append message (label ++ context_string m),
    ) in
    c.hash.ensures
    ∙ ap sha256
    (c.as_slice-2.ensures ∙ (and_then named c.put-2.ensures).parts
    ∙ ap (λ (n : ℕ). message ++ ((label ++ context_string m) ++ (n ∷ []))) long)
