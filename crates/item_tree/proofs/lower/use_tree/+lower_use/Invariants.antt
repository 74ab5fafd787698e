use Rattle.std.proofs.Common.{◌≡◌, ◌+◌, ◌++◌, drop, map, length}
use Rattle.item_tree.proofs.Common.{use_trees_view, all_written_nodes, kept_trees, all_kept_places, tree_of}
use Rattle.item_tree.proofs.lower.use_tree.+lower_use.Given as goal

abbrev pub invariant-lower_list-loop-node : goal.invariant-lower_list-loop-node
invariant-lower_list-loop-node l = record {
  counted : l.next + length (all_written_nodes (use_trees_view (drop l.node-index l.nodes))) ≡ l.fn.next + length (all_written_nodes (use_trees_view l.nodes));
  kept : map tree_of l.trees.items ++ kept_trees (use_trees_view (drop l.node-index l.nodes)) ≡ kept_trees (use_trees_view l.nodes);
  placed : l.places.items ++ all_kept_places l.next (use_trees_view (drop l.node-index l.nodes)) ≡ l.fn.places.items ++ all_kept_places l.fn.next (use_trees_view l.nodes);
}
