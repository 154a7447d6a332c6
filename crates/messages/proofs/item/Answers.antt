use Rattle.std.proofs.Common.{length, arith}
use Rattle.messages.proofs.Placing.{item_ends, no_item, one_item}
use Rattle.messages.proofs.item.Goals as goal

pub returns-then-i-items : goal.returns-then-i-items
returns-then-i-items g c = no_item g.G.Group.model c.args.items.now c.args.i c.element_width-width.result c.element_width-width.ensures c.if-i-items.true

pub overflow_mul-at : goal.overflow_mul-at
overflow_mul-at g c = omega (arith, item_ends c.args.i c.element_width-width.result (length c.args.items.now) c.if-i-items.false)

pub overflow_add-result : goal.overflow_add-result
overflow_add-result g c = omega (arith, item_ends c.args.i c.element_width-width.result (length c.args.items.now) c.if-i-items.false)

pub slice_bounds-result-end : goal.slice_bounds-result-end
slice_bounds-result-end g c = omega (arith, item_ends c.args.i c.element_width-width.result (length c.args.items.now) c.if-i-items.false)

pub returns : goal.returns
returns g c = one_item g.G.Group.model c.args.items.now c.args.i c.element_width-width.result c.element_width-width.ensures c.if-i-items.false
