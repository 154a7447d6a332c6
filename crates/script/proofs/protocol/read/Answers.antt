use Rattle.std.proofs.Common.{rules, inr}
use Rattle.std.proofs.lemmas.Result.{err_from_is_err_and}
use Rattle.script.proofs.protocol.read.Goals as goal
use Rattle.script.proofs.protocol.read.Goals.{in-Scratch+in_ok-number-in-Scratch, in-Outlet+in_ok-room-in-Outlet, in-Blind+in_ok-epoch-in-Blind+in_ok-bytes-in-Blind+in_ok-bytes-in-Blind-2+in_ok-bytes-in-Blind-3, in-Finish+in_ok-bytes-in-Finish+in_ok-bytes-in-Finish-2+in_ok-bytes-in-Finish-3+in_ok-bytes-in-Finish-4, in-Abandon, in-Station+in_ok-shelf-in-Station+in_ok-number-in-Station, in-Open+in_ok-epoch-in-Open+in_ok-bytes-in-Open, in-Close+in_ok-epoch-in-Close, in-Issue+in_ok-request-in-Issue+in_ok-nonce-in-Issue, in-Redeem+in_ok-bytes-in-Redeem, in-Count}

pub returns-in_err-end : goal.returns-in_err-end
returns-in_err-end c =
    let p = err_from_is_err_and c.from_residual-in_err-end.result c.from_residual-in_err-end.ensures.1 in
    rw (p.1, p.2) (inr (elim c.match-word.branch [
      | in-Scratch+in_ok-number-in-Scratch w ↦ search rules
      | in-Outlet+in_ok-room-in-Outlet w ↦ search rules
      | in-Blind+in_ok-epoch-in-Blind+in_ok-bytes-in-Blind+in_ok-bytes-in-Blind-2+in_ok-bytes-in-Blind-3 w ↦ search rules
      | in-Finish+in_ok-bytes-in-Finish+in_ok-bytes-in-Finish-2+in_ok-bytes-in-Finish-3+in_ok-bytes-in-Finish-4 w ↦ search rules
      | in-Abandon w ↦ search rules
      | in-Station+in_ok-shelf-in-Station+in_ok-number-in-Station w ↦ search rules
      | in-Open+in_ok-epoch-in-Open+in_ok-bytes-in-Open w ↦ search rules
      | in-Close+in_ok-epoch-in-Close w ↦ search rules
      | in-Issue+in_ok-request-in-Issue+in_ok-nonce-in-Issue w ↦ search rules
      | in-Redeem+in_ok-bytes-in-Redeem w ↦ search rules
      | in-Count w ↦ search rules
    ]))
