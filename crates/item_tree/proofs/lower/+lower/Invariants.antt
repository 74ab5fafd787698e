use Rattle.std.proofs.Common.{take}
use Rattle.item_tree.proofs.Common.{items_view, items_written, all_kept_in, Lowers}
use Rattle.item_tree.proofs.lower.+lower.Given as goal

abbrev pub invariant-lower_items-loop-item : goal.invariant-lower_items-loop-item
invariant-lower_items-loop-item l = Lowers l.initial.rows l.rows (items_written (items_view (take l.item-index l.items))) (all_kept_in l.ctx (items_view (take l.item-index l.items))) l.ids.items
