-- the loop as far as it has come
use Rattle.std.proofs.Common.{decimal}
use Rattle.hir_input_json.proofs.Common.{item_view, item}
use Rattle.hir_input_json.proofs.Lists.{read_inside}
use Rattle.hir_input_json.proofs.item.+items.Goals as goal

pub items_of-loop-item-preserved : goal.items_of-loop-item-preserved
items_of-loop-item-preserved t c =
    read_inside item_view item c.args.values.items _ _ _ _ _ _ (decimal c.len-place.result) _ c.loop-item.invariant c.in-Some.ensures.steps.0 c.item_of.ensures c.in_ok-read.ensures c.in_ok-push.ensures.items
