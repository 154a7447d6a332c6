use Rattle.std.proofs.Common.{length, ap, ◌∙◌, arith, rules}
use Rattle.std.proofs.lemmas.List.{length-take-le}
use Rattle.messages.specs.Views.{parts}
use Rattle.station.specs.Redeeming.{redeemable}
use Rattle.station.proofs.Checks.{token_long}
use Rattle.station.proofs.redeeming.redeemed_pair.Goals as goal

pub returns-then-bytes-lt-ENOUGH : goal.returns-then-bytes-lt-ENOUGH
unfolding redeemable
returns-then-bytes-lt-ENOUGH g c = search rules

pub returns-in_err-token : goal.returns-in_err-token
unfolding redeemable
returns-in_err-token g c = search rules

pub returns-then-token-kind : goal.returns-then-token-kind
unfolding redeemable
returns-then-token-kind g c = search rules

pub returns-in_err-key : goal.returns-in_err-key
unfolding redeemable
returns-in_err-key g c = search rules

pub returns-in_err-authentic : goal.returns-in_err-authentic
unfolding redeemable
returns-in_err-authentic g c = search rules

pub returns : goal.returns
unfolding redeemable
returns g c = search rules

pub authentic-requires : goal.authentic-requires
authentic-requires g c =
    let bytes = c.args.token.now in
    let long = token_long bytes (parts c.in_ok-token.token) c.in_ok-token.ensures.fields in
    record {
      room = search rules;
      input = ap length c.in_ok-token.ensures.input ∙ length-take-le 100 bytes (omega arith);
    }
