use Rattle.std.proofs.Common.{take_all, rules, eq-eqb}
use Rattle.std.proofs.lemmas.Bool.{ne_eqb}
use Rattle.script.proofs.hasher.NameHasherHasher.write.Goals as goal

pub returns-then-self-eq0 : goal.returns-then-self-eq0
returns-then-self-eq0 c = search (rules, eq-eqb)

pub returns : goal.returns
returns c = search (rules, ne_eqb, take_all)
