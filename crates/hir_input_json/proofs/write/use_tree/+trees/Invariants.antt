-- what is to be written is what was made, and behind it what is left
use Rattle.std.proofs.Common.{map}
use Rattle.hir_input_json.proofs.Writing.Common.{trees_from, use_tree_view, use_tree_data, use_trees_data}
use Rattle.hir_input_json.proofs.Writing.Lists.{HasMade}
use Rattle.hir_input_json.proofs.write.use_tree.+trees.Given as goal

abbrev pub invariant-use_tree_values-loop-tree : goal.invariant-use_tree_values-loop-tree
invariant-use_tree_values-loop-tree l = HasMade (λ t. use_tree_data (use_tree_view t)) (λ ts. use_trees_data (trees_from (map use_tree_view ts))) l.trees l.values.items l.tree-index
