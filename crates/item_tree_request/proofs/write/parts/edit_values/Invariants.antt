-- what is to be written is what was made, and behind it what is left
use Rattle.std.proofs.Common.{◌≡◌, map, drop}
use Rattle.serde_json.specs.View.{view}
use Rattle.item_tree_request.proofs.Writing.Common.{syntax_view, joined_items, edits_data}
use Rattle.item_tree_request.proofs.write.parts.edit_values.Given as goal

abbrev pub invariant-loop-i : goal.invariant-loop-i
invariant-loop-i l =
    edits_data l.bodies 0 (map syntax_view l.files) ≡ joined_items (map view l.values.items) (edits_data l.bodies l.i (map syntax_view (drop l.i l.files)))
