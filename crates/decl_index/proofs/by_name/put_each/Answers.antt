use Rattle.decl_index.proofs.Common.{◌∙◌, is_shelved}
use Rattle.decl_index.proofs.Order.{put_step}
use Rattle.decl_index.proofs.by_name.put_each.Goals as goal

pub loop-entry-preserved : goal.loop-entry-preserved
loop-entry-preserved c = record {
  shelved = c.put_copy.ensures.shelved;
  same = put_step c.args.entries.now c.loop-entry.entry-index c.entry-item.result c.loop-entry-test.true c.entry-item.is (is_shelved c.args.shelves.now) (is_shelved c.loop-entry.shelves) (is_shelved c.put_copy.new.shelves) c.loop-entry.invariant.same c.in_ok-put_copy.ensures.ok;
}

pub returns-in_err-put_copy-clause-some : goal.returns-in_err-put_copy-clause-some
returns-in_err-put_copy-clause-some c = (c.loop-entry.entry-index, λ q. c.in_err-put_copy.ensures.err q ∙ c.loop-entry.invariant.same q)

pub returns-clause-some : goal.returns-clause-some
returns-clause-some c = (c.loop-entry.entry-index, c.loop-entry.invariant.same)
