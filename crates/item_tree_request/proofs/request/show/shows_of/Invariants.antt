-- the reading is what was read, and then the reading of what is left; each show names a crate
use Rattle.std.proofs.Common.{◌≡◌, All, length}
use Rattle.serde_json.specs.View.{items_view}
use Rattle.item_tree_request.proofs.Common.{each, each_from, show, NamesCrate, joined}
use Rattle.item_tree_request.proofs.request.show.shows_of.Given as goal

abbrev pub invariant-loop-item : goal.invariant-loop-item
invariant-loop-item l =
    (each (show l.count) (items_view l.fn.items.items) ≡ joined l.shows.items (each_from (length l.shows.items) (show l.count) (items_view l.item-iterator.rest.items)))
    × All (NamesCrate l.count) l.shows.items
