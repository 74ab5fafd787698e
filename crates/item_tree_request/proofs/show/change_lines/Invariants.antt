-- what is written and the lines of what is left are the lines of all
use Rattle.std.proofs.Common.{◌≡◌, ◌++◌, string_bytes, flat_map}
use Rattle.item_tree_request.proofs.Common.{table_change_line}
use Rattle.item_tree_request.proofs.show.change_lines.Given as goal

abbrev pub invariant-loop-place : goal.invariant-loop-place
invariant-loop-place l = string_bytes l.text ++ flat_map table_change_line l.place-iterator ≡ flat_map table_change_line l.fn.changes
