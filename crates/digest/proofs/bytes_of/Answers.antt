use Rattle.std.proofs.Common.{List, [], map, ap, ◌∙◌, rules, ◌≡◌, ℕ}
use Rattle.std.specs.List.{flat_map}
use Rattle.std.proofs.lemmas.List.Folds.{flat_map-map}
use Rattle.digest.specs.Words.{word_bytes}
use Rattle.digest.proofs.Mapped.{mapped}
use Rattle.digest.proofs.bytes_of.Goals as goal

pub returns : goal.returns
returns c =
    let state = c.args.state.now in
    let whole = rw c.unwrap.ensures at c.as_array.ensures.cases in
    let words : c.map-bytes.result ≡ map word_bytes state =
    mapped _ word_bytes (λ x y p q k. search (rules, k)) _ state c.map-bytes.result 8 0 [] c.told-state c.map-bytes.ensures.items in
    whole.same ∙ c.as_flattened.ensures.value ∙ ap (flat_map (λ (x : List ℕ). x)) words ∙ flat_map-map (λ (x : List ℕ). x) word_bytes state
