use Rattle.std.proofs.Common.{◌+◌, ◌*◌, take, sum_by, flat_map}
use Rattle.item_tree.specs.Walk.{count_at}
use Rattle.def_map.specs.Inner.Walking.{id_rows, AddsRows}
use Rattle.def_map.proofs.walk.+walk.Given as goal

abbrev pub decreases-push_items : goal.decreases-push_items
decreases-push_items l = 2 * sum_by (count_at l.tree.now) l.ids.now + 1

abbrev pub decreases-push_item : goal.decreases-push_item
decreases-push_item l = 2 * count_at l.tree.now l.id

abbrev pub invariant-push_items-loop-id : goal.invariant-push_items-loop-id
invariant-push_items-loop-id l = AddsRows l.initial.rows.items l.rows.items (flat_map (id_rows l.ctx l.tree l.place) (take l.id-index l.ids))
