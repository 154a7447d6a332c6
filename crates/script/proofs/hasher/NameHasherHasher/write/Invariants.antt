use Rattle.std.proofs.Common.{◌≡◌, take, fold}
use Rattle.script.specs.Hashes.{mixed}
use Rattle.script.proofs.hasher.NameHasherHasher.write.Given as goal

abbrev pub invariant-loop-b : goal.invariant-loop-b
invariant-loop-b l = l.hash ≡ fold mixed l.fn.self.hash (take l.b-index l.bytes)
