-- the reading is what was read, and then the reading of what is left
use Rattle.std.proofs.Common.{◌+◌, ◌*◌, option_map}
use Rattle.serde_json.specs.Data.{depth, items_depth}
use Rattle.serde_json.specs.View.{view, items_view}
use Rattle.hir_input_json.proofs.Common.{item_view, item, object_held}
use Rattle.hir_input_json.proofs.NestedForms.{depth_of}
use Rattle.hir_input_json.proofs.Lists.{HasReadInside}
use Rattle.hir_input_json.proofs.item.+items.Given as goal

abbrev pub decreases-item_of : goal.decreases-item_of
decreases-item_of l = 4 * depth (view l.value) + 3

abbrev pub decreases-item_in : goal.decreases-item_in
decreases-item_in l = 4 * depth (object_held l.members.now) + 2

abbrev pub decreases-module_of : goal.decreases-module_of
decreases-module_of l = 4 * depth (object_held l.members.now) + 1

abbrev pub decreases-items_in : goal.decreases-items_in
decreases-items_in l = 4 * depth_of (option_map view l.list)

abbrev pub decreases-items_of : goal.decreases-items_of
decreases-items_of l = 4 * items_depth (items_view l.values.items) + 4

abbrev pub invariant-items_of-loop-item : goal.invariant-items_of-loop-item
invariant-items_of-loop-item l = HasReadInside item_view item l.fn.values.items l.done.items l.item-iterator.rest.items
