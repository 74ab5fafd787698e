use Rattle.std.proofs.Common.{◌≡◌, ◌+◌, ◌*◌, ◌≤◌, drop}
use Rattle.item_tree.proofs.Common.{MayCallAt, at_import, by_import, CallsLeft, chain_of, supers_before, branch_count, all_imports_from, all_most_supers, super_limit, tree_count, tree_of, trees_of}
use Rattle.item_tree.proofs.use_tree.expand.+expand.Given as goal

abbrev pub decreases-expand_all : goal.decreases-expand_all
decreases-expand_all g l = 2 * branch_count (trees_of l.trees.now) + 1

abbrev pub decreases-expand_tree : goal.decreases-expand_tree
decreases-expand_tree g l = 2 * tree_count (tree_of l.tree.now)

abbrev pub invariant-expand_all-loop-tree : goal.invariant-expand_all-loop-tree
invariant-expand_all-loop-tree g l = record {
  counted : l.next + branch_count (trees_of (drop l.tree-index l.trees)) ≡ l.fn.next + branch_count (trees_of l.trees);
  below : branch_count (trees_of (drop l.tree-index l.trees)) ≤ branch_count (trees_of l.trees);
  supers : all_most_supers (supers_before l.before) (trees_of (drop l.tree-index l.trees)) ≤ super_limit;
  callable : MayCallAt (at_import (goal.F-pre g)) (by_import (goal.F-step g)) l.f (all_imports_from (chain_of l.before) l.next (trees_of (drop l.tree-index l.trees)));
  left : CallsLeft (by_import (goal.F-step g)) l.fn.f (all_imports_from (chain_of l.before) l.fn.next (trees_of l.trees)) l.f (all_imports_from (chain_of l.before) l.next (trees_of (drop l.tree-index l.trees)));
}
