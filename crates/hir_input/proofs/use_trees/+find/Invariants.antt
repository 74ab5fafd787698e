use Rattle.std.proofs.Common.{◌≡◌, ◌+◌, length, take, flat_map}
use Rattle.hir_input.proofs.Common.{use_tree_view, written_nodes}
use Rattle.hir_input.proofs.use_trees.+find.Given as goal

abbrev pub invariant-find_in-loop-tree : goal.invariant-find_in-loop-tree
invariant-find_in-loop-tree l = l.fn.left ≡ l.left + length (flat_map (λ t. written_nodes (use_tree_view t)) (take l.tree-index l.trees))
