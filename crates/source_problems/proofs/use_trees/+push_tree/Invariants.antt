-- what is wrong with all is what was added, and behind it that of those that are left
use Rattle.std.proofs.Common.{◌≡◌, ◌++◌, map, drop}
use Rattle.hir_input.specs.UseTreeView.{use_tree_view, trees_from}
use Rattle.source_problems.specs.Items.{trees_problems}
use Rattle.source_problems.proofs.use_trees.+push_tree.Given as goal

abbrev pub invariant-loop-tree : goal.invariant-loop-tree
invariant-loop-tree l = record {
  at : l.found.at ≡ l.initial.found.at;
  problems : l.found.problems.items ++ trees_problems l.initial.found.at (trees_from (map use_tree_view (drop l.tree-index l.tree-items)))
      ≡ l.initial.found.problems.items ++ trees_problems l.initial.found.at (trees_from (map use_tree_view l.tree-items));
}
