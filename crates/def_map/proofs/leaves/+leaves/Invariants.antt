use Rattle.std.proofs.Common.{◌≡◌, ◌≤◌, ◌+◌, ◌*◌, drop}
use Rattle.item_tree.specs.Inner.Expanding.{branch_count}
use Rattle.item_tree.specs.Tree.{tree_count, tree_of, trees_of}
use Rattle.def_map.specs.UseLeaves.{leaf_counts}
use Rattle.def_map.proofs.leaves.+leaves.Given as goal

abbrev pub decreases-leaf_counts : goal.decreases-leaf_counts
decreases-leaf_counts l = 2 * branch_count (trees_of l.trees.now) + 1

abbrev pub decreases-leaf_count : goal.decreases-leaf_count
decreases-leaf_count l = 2 * tree_count (tree_of l.tree.now)

abbrev pub invariant-leaf_counts-loop-branch : goal.invariant-leaf_counts-loop-branch
invariant-leaf_counts-loop-branch l = record {
  counted : l.count + leaf_counts (trees_of (drop l.branch-index l.trees)) ≡ leaf_counts (trees_of l.trees);
  few : branch_count (trees_of (drop l.branch-index l.trees)) ≤ branch_count (trees_of l.trees);
}
