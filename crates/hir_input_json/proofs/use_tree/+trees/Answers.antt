-- the loop as far as it has come
use Rattle.std.proofs.Common.{decimal}
use Rattle.hir_input_json.proofs.Common.{use_tree_view, use_tree_form}
use Rattle.hir_input_json.proofs.Lists.{read_inside}
use Rattle.hir_input_json.proofs.use_tree.+trees.Goals as goal

pub use_trees_of-loop-item-preserved : goal.use_trees_of-loop-item-preserved
use_trees_of-loop-item-preserved t c =
    read_inside use_tree_view use_tree_form c.args.items.items _ _ _ _ _ _ (decimal c.len-place.result) _ c.loop-item.invariant c.in-Some.ensures.steps.0 c.use_tree_of.ensures c.in_ok-read.ensures c.in_ok-push.ensures.items
