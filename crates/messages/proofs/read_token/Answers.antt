use Rattle.std.proofs.Common.{take, drop, Ok, sym, refl, ap, ◌∙◌}
use Rattle.messages.specs.Messages.{kind_in, epoch_in}
use Rattle.messages.proofs.Reading.{token_wrong, token_whole}
use Rattle.messages.proofs.read_token.Goals as goal

pub returns-then-bytes-ne132 : goal.returns-then-bytes-ne132
returns-then-bytes-ne132 c = record { fields = sym (token_wrong c.args.bytes.now c.if-bytes-ne132.true); input = tt }

pub returns : goal.returns
returns c =
    let bytes = c.args.bytes.now in
    let kind = c.number.ensures in
    let epoch = c.number-2.ensures in
    let nonce = c.copy_from_slice.ensures.after in
    record {
      fields =
          ap (λ k. Ok (record { kind = k; epoch = c.number-2.result; nonce = c.copy_from_slice.new.self; context = take 32 (drop 36 bytes); key_id = take 32 (drop 68 bytes); authenticator = take 32 (drop 100 bytes) })) kind ∙
          ap (λ e. Ok (record { kind = kind_in bytes; epoch = e; nonce = c.copy_from_slice.new.self; context = take 32 (drop 36 bytes); key_id = take 32 (drop 68 bytes); authenticator = take 32 (drop 100 bytes) })) epoch ∙
          ap (λ n. Ok (record { kind = kind_in bytes; epoch = epoch_in bytes; nonce = n; context = take 32 (drop 36 bytes); key_id = take 32 (drop 68 bytes); authenticator = take 32 (drop 100 bytes) })) nonce ∙
          sym (token_whole bytes c.if-bytes-ne132.false);
      input = refl;
    }
