-- what is to be written is what was made, and behind it what is left
use Rattle.std.proofs.Common.{◌≡◌, map, drop}
use Rattle.serde_json.specs.View.{view}
use Rattle.hir_input_json.proofs.Writing.Common.{joined_items, each_data, name_data}
use Rattle.hir_input_json.proofs.write.path.names_behind.Given as goal

abbrev pub invariant-loop-name : goal.invariant-loop-name
invariant-loop-name l =
    joined_items (map view l.fn.values.items) (each_data name_data l.names) ≡ joined_items (map view l.values.items) (each_data name_data (drop l.name-index l.names))
