use Rattle.std.proofs.Common.{◌≡◌, ℕ, ◌+◌, List, ◌++◌, length, codes, ap, ◌∙◌, arith}
use Rattle.std.proofs.lemmas.List.{length-append}
use Rattle.digest.specs.Sha256.{sha256}
use Rattle.numbers.specs.Bytes.{two_bytes}
use Rattle.numbers.proofs.Writing.{and_then, same_part, whole}
use Rattle.hashing.specs.Hashing.{context_string}
use Rattle.voprf.specs.Proving.{seed}
use Rattle.voprf.proofs.proving.seed.Goals as goal

pub returns : goal.returns
unfolding seed context_string
returns g c =
    let m = g.G.Group.model in
    let named = c.name.ensures in
    let long : 20 + length c.name.result.now ≡ length (codes "Seed-" ++ context_string m) =
    ap (λ (l : List ℕ). 20 + length l) named
    ∙ omega (arith, length-append m.name (codes "-SHA256")) in
    c.hash.ensures
    ∙ ap sha256
    (c.as_slice.ensures
    ∙ whole c.new-transcript.ensures.parts
    (and_then c.put_element.ensures.put
    (and_then (same_part (c.to_be_bytes.ensures ∙ ap two_bytes long) c.put.ensures)
    (and_then c.put-2.ensures c.put_context.ensures.put))))
