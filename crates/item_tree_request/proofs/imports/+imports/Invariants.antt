use Rattle.std.proofs.Common.{◌≡◌, ◌+◌, ◌*◌, ◌++◌, take, string_bytes, sum_by, flat_map}
use Rattle.item_tree.specs.Walk.{count_at}
use Rattle.item_tree_request.proofs.Common.{import_lines_at}
use Rattle.item_tree_request.proofs.imports.+imports.Given as goal

abbrev pub decreases-push_all : goal.decreases-push_all
decreases-push_all l = 2 * sum_by (count_at l.tree.now) l.ids.now + 1

abbrev pub decreases-push_one : goal.decreases-push_one
decreases-push_one l = 2 * count_at l.tree.now l.id

abbrev pub invariant-push_all-loop-id : goal.invariant-push_all-loop-id
invariant-push_all-loop-id l = string_bytes l.text ≡ string_bytes l.initial.text ++ flat_map (import_lines_at l.edition.reserved.items l.tree) (take l.id-index l.ids)
