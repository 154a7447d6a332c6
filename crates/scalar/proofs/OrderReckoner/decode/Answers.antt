use Rattle.std.proofs.Common.{◌≡◌, length, sym, ◌∙◌, arith}
use Rattle.numbers.specs.Bytes.{read}
use Rattle.numbers.proofs.Bytes.{read_one, read_two, slice_bytes}
use Rattle.scalar.specs.Laws.{narrow, wide}
use Rattle.scalar.proofs.Meets.{width_one, width_two, decoded, refused}
use Rattle.scalar.proofs.OrderReckoner.decode.Goals as goal
use Rattle.scalar.proofs.OrderReckoner.decode.Goals.{in-len1, in-len2}

pub returns-in_default : goal.returns-in_default
returns-in_default g c = refused c.args.self c.args.bytes.now (λ e _. omega (arith, narrow g.row.Q, e))

pub returns-in_default-2 : goal.returns-in_default-2
returns-in_default-2 g c =
    let two = width_two g.row.Q (omega arith) in
    refused c.args.self c.args.bytes.now (λ e _. omega (arith, two, e))

pub returns-in_default-3 : goal.returns-in_default-3
returns-in_default-3 g c =
    let one = width_one g.row.Q (omega arith) in
    refused c.args.self c.args.bytes.now (λ e _. omega (arith, one, e))

pub returns-in_default-4 : goal.returns-in_default-4
returns-in_default-4 g c = refused c.args.self c.args.bytes.now (λ e _. omega (arith, wide g.row.Q, e))

pub returns-then-value : goal.returns-then-value
returns-then-value g c =
    let bytes = c.args.bytes.now in
    elim c.if-bytes-lt2.branch [
      | in-len1 w ↦
          let one : length bytes ≡ 1 = omega arith in
          decoded c.args.self bytes _ (slice_bytes bytes c.type_inv.bytes) (one ∙ sym (width_one g.row.Q w.if-this-le256.true))
          (read_one bytes one ∙ sym w.from-value.ensures ∙ sym w.value-is)
      | in-len2 w ↦
          let two : length bytes ≡ 2 = omega arith in
          decoded c.args.self bytes _ (slice_bytes bytes c.type_inv.bytes) (two ∙ sym (width_two g.row.Q w.if-this-gt256.true))
          (read_two bytes two ∙ sym w.from_be_bytes-value.ensures ∙ sym w.value-is)
    ]

pub returns-else-value : goal.returns-else-value
returns-else-value g c =
    let bytes = c.args.bytes.now in
    let value : read bytes ≡ c.if-bytes-lt2.value =
    elim c.if-bytes-lt2.branch [
      | in-len1 w ↦ read_one bytes (omega arith) ∙ sym w.from-value.ensures ∙ sym w.value-is
      | in-len2 w ↦ read_two bytes (omega arith) ∙ sym w.from_be_bytes-value.ensures ∙ sym w.value-is
    ] in
    refused c.args.self bytes (λ _ h. omega arith)
