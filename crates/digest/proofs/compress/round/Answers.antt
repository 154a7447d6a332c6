use Rattle.digest.specs.Words.{Σ₀, Σ₁}
use Rattle.digest.specs.Sha256.{stepped}
use Rattle.digest.proofs.compress.round.Goals as goal

pub returns : goal.returns
unfolding stepped Σ₀ Σ₁
returns c = cc
