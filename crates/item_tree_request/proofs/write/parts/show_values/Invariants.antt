-- what is to be written is what was made, and behind it what is left
use Rattle.hir_input_json.proofs.Writing.Lists.{HasMade}
use Rattle.item_tree_request.proofs.Writing.Common.{each_data, show_data}
use Rattle.item_tree_request.proofs.write.parts.show_values.Given as goal

abbrev pub invariant-loop-show : goal.invariant-loop-show
invariant-loop-show l = HasMade show_data (each_data show_data) l.shows l.values.items l.show-index
