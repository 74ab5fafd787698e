-- the reading is what was read, and then the reading of what is left
use Rattle.hir_input_json.proofs.Common.{extern_item_view, extern_item}
use Rattle.hir_input_json.proofs.Lists.{HasRead}
use Rattle.hir_input_json.proofs.item.extern_block.extern_items_of.Given as goal

abbrev pub invariant-loop-item : goal.invariant-loop-item
invariant-loop-item l = HasRead extern_item_view extern_item l.fn.values.items l.done.items l.item-iterator.rest.items
