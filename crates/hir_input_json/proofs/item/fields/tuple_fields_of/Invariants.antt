-- the reading is what was read, and then the reading of what is left
use Rattle.hir_input_json.proofs.Common.{tuple_field}
use Rattle.hir_input_json.proofs.Lists.{HasRead}
use Rattle.hir_input_json.proofs.item.fields.tuple_fields_of.Given as goal

abbrev pub invariant-loop-item : goal.invariant-loop-item
invariant-loop-item l = HasRead (λ f. f.visibility) tuple_field l.fn.items.items l.done.items l.item-iterator.rest.items
