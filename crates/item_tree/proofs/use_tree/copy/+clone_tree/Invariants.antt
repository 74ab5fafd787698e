use Rattle.std.proofs.Common.{◌≡◌, map, take}
use Rattle.item_tree.proofs.Common.{tree_of}
use Rattle.item_tree.proofs.use_tree.copy.+clone_tree.Given as goal

abbrev pub invariant-clone_trees-loop-tree : goal.invariant-clone_trees-loop-tree
invariant-clone_trees-loop-tree l = map tree_of l.copies.items ≡ map tree_of (take l.tree-index l.trees.items)
