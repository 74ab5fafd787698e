-- the reading is what was read, and then the reading of what is left
use Rattle.std.proofs.Common.{◌≡◌, All, length, map}
use Rattle.serde_json.specs.View.{items_view}
use Rattle.source_session.proofs.Common.{each, each_from, joined, text_edit_view, line_edit, IsUsable}
use Rattle.source_session.proofs.line.edits_of.Given as goal

abbrev pub invariant-loop-item : goal.invariant-loop-item
invariant-loop-item l =
    (each (line_edit l.count) (items_view l.fn.items.items) ≡ joined (map text_edit_view l.done.items) (each_from (length l.done.items) (line_edit l.count) (items_view l.item-iterator.rest.items)))
    × All (IsUsable l.count) l.done.items
