-- what is to be written is what was made, and behind it what is left
use Rattle.std.proofs.Common.{map}
use Rattle.hir_input_json.proofs.Writing.Lists.{HasMade}
use Rattle.item_tree_request.proofs.Writing.Common.{atom_view, atom_data, each_data}
use Rattle.item_tree_request.proofs.write.parts.atom_values.Given as goal

abbrev pub invariant-loop-atom : goal.invariant-loop-atom
invariant-loop-atom l = HasMade (λ a. atom_data (atom_view a)) (λ as'. each_data atom_data (map atom_view as')) l.atoms l.values.items l.atom-index
