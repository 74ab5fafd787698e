-- one more, and the last
use Rattle.std.proofs.Common.{rules, refl}
use Rattle.hir_input_json.proofs.Writing.Lists.{all_made, more_made}
use Rattle.hir_input_json.proofs.write.use_tree.+trees.Goals as goal

pub use_tree_values-loop-tree-preserved : goal.use_tree_values-loop-tree-preserved
use_tree_values-loop-tree-preserved t c = more_made c.loop-tree.invariant c.tree-item.result c.in_ok-use_tree_value.field-0 (λ x xs. refl) (search rules) (search rules) c.in_ok-push.ensures.items

pub use_tree_values-returns : goal.use_tree_values-returns
use_tree_values-returns t c = all_made c.loop-tree.invariant refl (search rules)
