-- the loop as far as it has come
use Rattle.std.proofs.Common.{decimal}
use Rattle.hir_input_json.proofs.Common.{extern_item_view, extern_item}
use Rattle.hir_input_json.proofs.Lists.{read_next}
use Rattle.hir_input_json.proofs.item.extern_block.extern_items_of.Goals as goal

pub loop-item-preserved : goal.loop-item-preserved
loop-item-preserved c =
    read_next extern_item_view extern_item _ _ _ _ _ _ _ (decimal c.len-place.result) _ c.loop-item.invariant c.in-Some.ensures.steps.0 c.extern_item_of.ensures c.in_ok-read.ensures c.in_ok-push.ensures.items
