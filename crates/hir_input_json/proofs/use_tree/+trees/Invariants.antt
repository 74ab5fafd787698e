-- the reading is what was read, and then the reading of what is left
use Rattle.std.proofs.Common.{◌+◌, ◌*◌, option_map}
use Rattle.serde_json.specs.Data.{depth, items_depth}
use Rattle.serde_json.specs.View.{view, items_view}
use Rattle.hir_input_json.proofs.Common.{use_tree_view, use_tree_form, object_held}
use Rattle.hir_input_json.proofs.NestedForms.{depth_of}
use Rattle.hir_input_json.proofs.Lists.{HasReadInside}
use Rattle.hir_input_json.proofs.use_tree.+trees.Given as goal

abbrev pub decreases-use_tree_of : goal.decreases-use_tree_of
decreases-use_tree_of l = 3 * depth (view l.value) + 2

abbrev pub decreases-use_tree_in : goal.decreases-use_tree_in
decreases-use_tree_in l = 3 * depth (object_held l.members.now) + 1

abbrev pub decreases-use_trees_in : goal.decreases-use_trees_in
decreases-use_trees_in l = 3 * depth_of (option_map view l.list)

abbrev pub decreases-use_trees_of : goal.decreases-use_trees_of
decreases-use_trees_of l = 3 * items_depth (items_view l.items.items) + 3

abbrev pub invariant-use_trees_of-loop-item : goal.invariant-use_trees_of-loop-item
invariant-use_trees_of-loop-item l = HasReadInside use_tree_view use_tree_form l.fn.items.items l.done.items l.item-iterator.rest.items
