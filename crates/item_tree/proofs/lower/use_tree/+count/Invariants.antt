use Rattle.std.proofs.Common.{◌≡◌, ◌+◌, drop, length}
use Rattle.item_tree.proofs.Common.{use_trees_view, all_written_nodes}
use Rattle.item_tree.proofs.lower.use_tree.+count.Given as goal

abbrev pub invariant-count_all_written-loop-node : goal.invariant-count_all_written-loop-node
invariant-count_all_written-loop-node l = l.count + length (all_written_nodes (use_trees_view (drop l.node-index l.nodes))) ≡ length (all_written_nodes (use_trees_view l.nodes))
