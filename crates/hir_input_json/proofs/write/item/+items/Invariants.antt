-- what is to be written is what was made, and behind it what is left
use Rattle.hir_input_json.proofs.Writing.Common.{item_view, items_view, item_data, items_data}
use Rattle.hir_input_json.proofs.Writing.Lists.{HasMade}
use Rattle.hir_input_json.proofs.write.item.+items.Given as goal

abbrev pub invariant-item_values-loop-item : goal.invariant-item_values-loop-item
invariant-item_values-loop-item l = HasMade (λ i. item_data l.bodies (item_view i)) (λ is. items_data l.bodies (items_view is)) l.items l.values.items l.item-index
