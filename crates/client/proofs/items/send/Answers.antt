use Rattle.std.proofs.Common.{rules}
use Rattle.client.specs.Batches.{sent}
use Rattle.client.proofs.Nulls.{blinded_is_null}
use Rattle.client.proofs.items.send.Goals as goal

pub returns-in_err-r : goal.returns-in_err-r
unfolding sent
returns-in_err-r g c = search rules

pub returns-then-is_null : goal.returns-then-is_null
unfolding sent
returns-then-is_null g c = let same = blinded_is_null g.G.Group.model c.in_ok-r.r c.args.input.now in search rules

pub returns : goal.returns
unfolding sent
returns g c = let same = blinded_is_null g.G.Group.model c.in_ok-r.r c.args.input.now in search rules
