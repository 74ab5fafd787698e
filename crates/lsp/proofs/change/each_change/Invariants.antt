-- the reading is what was read, and then the reading of what is left
use Rattle.hir_input_json.proofs.Lists.{HasRead}
use Rattle.lsp.specs.Changes.{content_change_form}
use Rattle.lsp.specs.Views.{change_view}
use Rattle.lsp.proofs.change.each_change.Given as goal

abbrev pub invariant-loop-item : goal.invariant-loop-item
invariant-loop-item l = HasRead change_view content_change_form l.fn.items.items l.done.items l.item-iterator.rest.items
