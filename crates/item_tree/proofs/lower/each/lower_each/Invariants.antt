use Rattle.std.proofs.Common.{take, map}
use Rattle.item_tree.proofs.Common.{items_from, items_written, all_kept_in, Lowers}
use Rattle.item_tree.proofs.lower.each.lower_each.Given as goal

abbrev pub invariant-loop-node : goal.invariant-loop-node
invariant-loop-node g l =
    let done = items_from (map g.T.LowerNode.seen (take l.node-index l.nodes)) in
    Lowers l.initial.rows l.rows (items_written done) (all_kept_in l.ctx done) l.ids.items
