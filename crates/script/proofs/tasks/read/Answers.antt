use Rattle.std.proofs.Common.{rules, inr}
use Rattle.std.proofs.lemmas.Result.{err_from_is_err_and}
use Rattle.script.proofs.tasks.read.Goals as goal
use Rattle.script.proofs.tasks.read.Goals.{in-Digest+in_ok-bytes-in-Digest, in-Group+in_ok-kind-in-Group, in-Decode+in_ok-bytes-in-Decode, in-Map+in_ok-bytes-in-Map, in-Base+in_ok-bytes-in-Base, in-Input+in_ok-epoch-in-Input+in_ok-bytes-in-Input+in_ok-bytes-in-Input-2+in_ok-bytes-in-Input-3, in-Direct+in_ok-key-in-Direct+in_ok-input-in-Direct, in-Book+in_ok-shelf-in-Book+in_ok-number-in-Book, in-Mark+in_ok-epoch-in-Mark+in_ok-bytes-in-Mark, in-Has+in_ok-epoch-in-Has+in_ok-bytes-in-Has, in-Drop+in_ok-epoch-in-Drop, in-Size, in-Clear, in-Image}

pub returns-in_err-end : goal.returns-in_err-end
returns-in_err-end c =
    let p = err_from_is_err_and c.from_residual-in_err-end.result c.from_residual-in_err-end.ensures.1 in
    rw (p.1, p.2) (inr (elim c.match-statement.branch [
      | in-Digest+in_ok-bytes-in-Digest w ↦ search rules
      | in-Group+in_ok-kind-in-Group w ↦ search rules
      | in-Decode+in_ok-bytes-in-Decode w ↦ search rules
      | in-Map+in_ok-bytes-in-Map w ↦ search rules
      | in-Base+in_ok-bytes-in-Base w ↦ search rules
      | in-Input+in_ok-epoch-in-Input+in_ok-bytes-in-Input+in_ok-bytes-in-Input-2+in_ok-bytes-in-Input-3 w ↦ search rules
      | in-Direct+in_ok-key-in-Direct+in_ok-input-in-Direct w ↦ search rules
      | in-Book+in_ok-shelf-in-Book+in_ok-number-in-Book w ↦ search rules
      | in-Mark+in_ok-epoch-in-Mark+in_ok-bytes-in-Mark w ↦ search rules
      | in-Has+in_ok-epoch-in-Has+in_ok-bytes-in-Has w ↦ search rules
      | in-Drop+in_ok-epoch-in-Drop w ↦ search rules
      | in-Size w ↦ search rules
      | in-Clear w ↦ search rules
      | in-Image w ↦ search rules
    ]))
