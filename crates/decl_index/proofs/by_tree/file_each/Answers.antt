use Rattle.decl_index.proofs.Common.{is_filed}
use Rattle.decl_index.proofs.Order.{put_step}
use Rattle.decl_index.proofs.by_tree.file_each.Goals as goal

pub loop-entry-preserved : goal.loop-entry-preserved
loop-entry-preserved c = put_step c.args.entries.now c.loop-entry.entry-index c.entry-item.result c.loop-entry-test.true c.entry-item.is (is_filed c.args.trees.now) (is_filed c.loop-entry.trees) (is_filed c.file_copy.new.trees) c.loop-entry.invariant c.in_ok-file_copy.ensures.ok
