use Rattle.std.proofs.Common.{◌≡◌, map, take, drop}
use Rattle.hir_input.specs.Syntax.{item_view}
use Rattle.rust_items.specs.Ids.{list_with_ids}
use Rattle.rust_items.specs.Views.{supply_view}
use Rattle.rust_items.proofs.Numbering.{behind}
use Rattle.rust_items.proofs.ids.+ids.Given as goal

abbrev pub invariant-number_items-loop-item : goal.invariant-number_items-loop-item
invariant-number_items-loop-item l = record {
  numbered : list_with_ids (map item_view l.fn.items) (supply_view l.fn.supply)
      ≡ behind (map item_view (take l.item-index l.items)) (list_with_ids (map item_view (drop l.item-index l.items)) (supply_view l.supply));
  unvisited : goal.unvisited-number_items-loop-item l;
}
