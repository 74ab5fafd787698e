-- what is to be written is what was made, and behind it what is left
use Rattle.std.proofs.Common.{map}
use Rattle.hir_input_json.proofs.Writing.Common.{extern_item_view, items_from, extern_item_data, extern_items_data}
use Rattle.hir_input_json.proofs.Writing.Lists.{HasMade}
use Rattle.hir_input_json.proofs.write.extern_block.extern_item_values.Given as goal

abbrev pub invariant-loop-item : goal.invariant-loop-item
invariant-loop-item l = HasMade (λ i. extern_item_data l.bodies (extern_item_view i)) (λ is. extern_items_data l.bodies (items_from (map extern_item_view is))) l.extern_items l.values.items l.item-index
