use Rattle.std.proofs.Common.{◌≡◌, ◌+◌, take, sum_by}
use Rattle.item_tree.specs.Walk.{of_id}
use Rattle.def_map.specs.Tables.{node_exports}
use Rattle.def_map.proofs.files.is_more.Given as goal

abbrev pub invariant-loop-id : goal.invariant-loop-id
invariant-loop-id l = l.left + sum_by (of_id l.tree 0 node_exports) (take l.id-index l.ids) ≡ l.words
