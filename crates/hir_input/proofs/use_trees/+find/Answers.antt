use Rattle.hir_input.proofs.UseTreeNodes.{slice_get_piece}
use Rattle.hir_input.proofs.use_trees.+find.Goals as goal

pub find_in-returns-in-Some : goal.find_in-returns-in-Some
find_in-returns-in-Some t c =
    slice_get_piece _ c.args.trees.now c.loop-tree.tree-index c.args.left.now c.loop-tree.left c.tree-item.result _ c.loop-tree-test.true c.tree-item.is c.loop-tree.invariant c.in-Some.ensures
