use Rattle.std.proofs.Common.{◌≤◌, ◌↔◌, ◌+◌, ◌*◌, drop, length}
use Rattle.item_tree.proofs.Common.{tree_of, trees_of, tree_count, branch_nodes, all_most_supers, super_limit}
use Rattle.item_tree.proofs.lower.use_tree.+supers.Given as goal

abbrev pub decreases-has_room_for_supers : goal.decreases-has_room_for_supers
decreases-has_room_for_supers l = 2 * tree_count (tree_of l.tree.now)

abbrev pub decreases-all_have_room_for_supers : goal.decreases-all_have_room_for_supers
decreases-all_have_room_for_supers l = 2 * length (branch_nodes (trees_of l.trees.now)) + 1

abbrev pub invariant-all_have_room_for_supers-loop-tree : goal.invariant-all_have_room_for_supers-loop-tree
invariant-all_have_room_for_supers-loop-tree l = (all_most_supers l.above (trees_of (drop l.tree-index l.trees)) ≤ super_limit) ↔ (all_most_supers l.above (trees_of l.trees) ≤ super_limit)
