use Rattle.std.proofs.Common.{◌≡◌, map, take, length}
use Rattle.item_tree.proofs.Common.{tree_of}
use Rattle.item_tree.proofs.use_tree.equal.+same_tree.Given as goal

abbrev pub invariant-same_trees-loop-tree : goal.invariant-same_trees-loop-tree
invariant-same_trees-loop-tree l = map tree_of (take (length l.yielded) l.trees) ≡ map tree_of (take (length l.yielded) l.others)
