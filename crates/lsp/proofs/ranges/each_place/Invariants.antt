-- the reading is what was read, and then the reading of what is left
use Rattle.hir_input_json.proofs.Lists.{HasRead}
use Rattle.lsp.specs.Positions.{position_form}
use Rattle.lsp.proofs.ranges.each_place.Given as goal

abbrev pub invariant-loop-item : goal.invariant-loop-item
invariant-loop-item l = HasRead (λ place. place) position_form l.fn.items.items l.done.items l.item-iterator.rest.items
