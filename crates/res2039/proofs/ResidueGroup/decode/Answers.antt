use Rattle.std.proofs.Common.{◌≡◌, ℕ, ◌%◌, ◌^◌, ◌<◌, length, get_or, sym, ap, ◌∙◌, arith, rules}
use Rattle.numbers.proofs.Bytes.{two_bytes}
use Rattle.group.proofs.Codes.{decodes, refuses}
use Rattle.res2039.specs.Kind.{residues}
use Rattle.res2039.proofs.Steps.{code_is, number_of_code, no_code}
use Rattle.res2039.proofs.ResidueGroup.decode.Goals as goal
use Rattle.res2039.proofs.ResidueGroup.decode.Goals.{else-value-lt2039-via-then-value-lt2039+else-raised-eq1, else-value-lt2039-via-else-value-lt2039}

pub returns-in_default : goal.returns-in_default
returns-in_default c =
    let bytes = c.args.bytes.now in
    let other : length bytes ≡ 2 → ⊥ = λ e. search rules in
    refuses residues bytes (no_code bytes other)

pub returns-in_default-2 : goal.returns-in_default-2
returns-in_default-2 c =
    let bytes = c.args.bytes.now in
    let other : length bytes ≡ 2 → ⊥ = λ e. search rules in
    refuses residues bytes (no_code bytes other)

pub returns-then-raised-eq1 : goal.returns-then-raised-eq1
returns-then-raised-eq1 c =
    let bytes = c.args.bytes.now in
    let many : length bytes ≡ 2 = search rules in
    let small : get_or bytes 1 0 < 256 = omega (arith, c.type_inv.bytes 1) in
    decodes residues bytes _ (code_is _ (get_or bytes 0 0) (get_or bytes 1 0) small c.from_be_bytes-value.ensures ∙ sym (two_bytes bytes many))

pub returns-else-value-lt2039 : goal.returns-else-value-lt2039
returns-else-value-lt2039 c =
    let bytes = c.args.bytes.now in
    refuses residues bytes
    (λ x e.
    let value = number_of_code x bytes e ∙ sym c.from_be_bytes-value.ensures in
    let low = x.member.0 in
    elim c.else-value-lt2039.branch [
      | else-value-lt2039-via-then-value-lt2039+else-raised-eq1 w ↦ w.if-raised-eq1.false (w.raised.ensures ∙ ap (λ (n : ℕ). n ^ 1019 % 2039) (sym value) ∙ x.member.1)
      | else-value-lt2039-via-else-value-lt2039 w ↦ let high = w.if-value-lt2039.false in omega arith
    ])
