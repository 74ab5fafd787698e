use Rattle.std.proofs.Common.{◌∙◌}
use Rattle.itemtree_commands.proofs.ItemsFound.{finds_next}
use Rattle.itemtree_commands.proofs.declarations.items_by_id.Goals as goal

pub loop-place-preserved : goal.loop-place-preserved
loop-place-preserved c = (
  c.in_ok-put_item.ensures.same ∙ c.loop-place.invariant.0,
  finds_next c.args.text.now c.loop-place.items c.put_item.new.items c.args.places.now c.loop-place.place-index _ c.loop-place-test.true c.in_ok-put_item.ensures.put c.loop-place.invariant.1,
)
