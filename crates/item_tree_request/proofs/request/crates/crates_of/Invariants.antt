-- the reading is what was read, and then the reading of what is left
use Rattle.std.proofs.Common.{◌≡◌, map, length}
use Rattle.serde_json.specs.View.{items_view}
use Rattle.item_tree_request.proofs.Common.{crate_view, each, each_from, crate_data, joined}
use Rattle.item_tree_request.proofs.request.crates.crates_of.Given as goal

abbrev pub invariant-loop-item : goal.invariant-loop-item
invariant-loop-item l = each crate_data (items_view l.fn.items.items) ≡ joined (map crate_view l.crates.items) (each_from (length l.crates.items) crate_data (items_view l.item-iterator.rest.items))
