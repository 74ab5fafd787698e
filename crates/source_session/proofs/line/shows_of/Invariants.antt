-- the reading is what was read, and then the reading of what is left
use Rattle.std.proofs.Common.{◌≡◌, All, length}
use Rattle.serde_json.specs.View.{items_view}
use Rattle.source_session.proofs.Common.{each, each_from, joined, line_show, ShowNamesCrate}
use Rattle.source_session.proofs.line.shows_of.Given as goal

abbrev pub invariant-loop-item : goal.invariant-loop-item
invariant-loop-item l =
    (each (line_show l.count) (items_view l.fn.items.items) ≡ joined l.done.items (each_from (length l.done.items) (line_show l.count) (items_view l.item-iterator.rest.items)))
    × All (ShowNamesCrate l.count) l.done.items
