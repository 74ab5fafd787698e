use Rattle.std.proofs.Common.{◌≡◌, ◌+◌, ◌*◌, drop}
use Rattle.item_tree.proofs.Common.{branch_count, tree_count, tree_of, trees_of}
use Rattle.item_tree.proofs.use_tree.expand.+count.Given as goal

abbrev pub decreases-count_all : goal.decreases-count_all
decreases-count_all l = 2 * branch_count (trees_of l.trees.now) + 1

abbrev pub decreases-count_nodes : goal.decreases-count_nodes
decreases-count_nodes l = 2 * tree_count (tree_of l.tree.now)

abbrev pub invariant-count_all-loop-branch : goal.invariant-count_all-loop-branch
invariant-count_all-loop-branch l = l.count + branch_count (trees_of (drop l.branch-index l.trees)) ≡ branch_count (trees_of l.trees)
