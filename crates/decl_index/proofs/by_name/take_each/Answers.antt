use Rattle.decl_index.proofs.Common.{◌∙◌, is_shelved}
use Rattle.decl_index.proofs.Order.{take_step}
use Rattle.decl_index.proofs.by_name.take_each.Goals as goal

pub loop-entry-preserved : goal.loop-entry-preserved
loop-entry-preserved c = record {
  shelved = c.clear_away.ensures.shelved;
  left = take_step c.args.entries.now c.loop-entry.entry-index c.entry-item.result c.loop-entry-test.true c.entry-item.is (is_shelved c.args.shelves.now) (is_shelved c.loop-entry.shelves) (is_shelved c.clear_away.new.shelves) c.loop-entry.invariant.left (λ q. c.clear_away.ensures.same q ∙ c.take_off.ensures.left q);
}
