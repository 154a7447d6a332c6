use Rattle.std.proofs.Common.{◌≡◌, take}
use Rattle.std.specs.List.{fold}
use Rattle.digest.specs.Sha256.{compressed}
use Rattle.digest.proofs.after_blocks.Given as goal

abbrev pub invariant-loop-block : goal.invariant-loop-block
invariant-loop-block l = l.now ≡ fold compressed l.fn.state (take l.block-index l.blocks)
