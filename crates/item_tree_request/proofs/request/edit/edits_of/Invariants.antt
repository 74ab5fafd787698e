-- the reading is what was read, and then the reading of what is left; each edit names no crate but one of those
use Rattle.std.proofs.Common.{◌≡◌, All, map, length}
use Rattle.serde_json.specs.View.{items_view}
use Rattle.item_tree_request.proofs.Common.{edit_view, each, each_from, edit, EditNamesCrate, joined}
use Rattle.item_tree_request.proofs.request.edit.edits_of.Given as goal

abbrev pub invariant-loop-item : goal.invariant-loop-item
invariant-loop-item l =
    (each (edit l.count) (items_view l.fn.items.items) ≡ joined (map edit_view l.edits.items) (each_from (length l.edits.items) (edit l.count) (items_view l.item-iterator.rest.items)))
    × All (EditNamesCrate l.count) l.edits.items
