use Rattle.token.proofs.Nulls.{null_tested}
use Rattle.token.proofs.is_null.Goals as goal

pub returns : goal.returns
returns g c = null_tested g.G.Group.model c.args.p c.same.result c.null.result c.null.ensures c.same.ensures
