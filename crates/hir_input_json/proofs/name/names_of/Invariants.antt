-- the reading is what was read, and then the reading of what is left
use Rattle.std.proofs.Common.{◌≡◌, ◌+◌, length}
use Rattle.serde_json.specs.View.{items_view}
use Rattle.hir_input_json.proofs.Common.{each_from, identifier_form}
use Rattle.hir_input_json.proofs.Lists.{joined}
use Rattle.hir_input_json.proofs.name.names_of.Given as goal

abbrev pub invariant-loop-item : goal.invariant-loop-item
invariant-loop-item l = each_from l.first identifier_form (items_view l.fn.items.rest.items) ≡ joined l.names.items (each_from (l.first + length l.names.items) identifier_form (items_view l.item-iterator.rest.items))
