use Rattle.std.proofs.Common.{arith, append_assoc}
use Rattle.item_tree.proofs.Common.{common_steps}
use Rattle.item_tree.proofs.WrittenNodes.{view_listed}
use Rattle.item_tree.proofs.lower.use_tree.+lower_use.Goals as goal

pub lower_list-loop-node-init : goal.lower_list-loop-node-init
lower_list-loop-node-init t c = grind (arith, common_steps)

pub lower_list-loop-node-preserved : goal.lower_list-loop-node-preserved
lower_list-loop-node-preserved t c = grind (arith, common_steps)

pub lower_list-returns : goal.lower_list-returns
lower_list-returns t c = grind (arith, common_steps)

pub lower_list-returns-in_err-tree : goal.lower_list-returns-in_err-tree
lower_list-returns-in_err-tree t c = grind (arith, view_listed, append_assoc)

pub lower_node-returns : goal.lower_node-returns
lower_node-returns t c = grind (arith, view_listed, append_assoc)
