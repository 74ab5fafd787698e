use Rattle.decl_index.proofs.Common.{◌∙◌, is_filed}
use Rattle.decl_index.proofs.Order.{take_step}
use Rattle.decl_index.proofs.by_tree.take_out_each.Goals as goal

pub loop-entry-preserved : goal.loop-entry-preserved
loop-entry-preserved c = take_step c.args.entries.now c.loop-entry.entry-index c.entry-item.result c.loop-entry-test.true c.entry-item.is (is_filed c.args.trees.now) (is_filed c.loop-entry.trees) (is_filed c.forget_empty.new.trees) c.loop-entry.invariant (λ q. c.forget_empty.ensures q ∙ c.take_out.ensures q)
