-- what is to be written is what was made, and behind it what is left
use Rattle.hir_input_json.proofs.Writing.Lists.{HasMade}
use Rattle.item_tree_request.proofs.Writing.Common.{each_data, name_data}
use Rattle.item_tree_request.proofs.write.parts.name_values.Given as goal

abbrev pub invariant-loop-name : goal.invariant-loop-name
invariant-loop-name l = HasMade name_data (each_data name_data) l.names l.values.items l.name-index
