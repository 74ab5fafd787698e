use Rattle.std.proofs.Common.{◌≡◌, map, take, drop}
use Rattle.hir_input.specs.Syntax.{extern_item_view}
use Rattle.rust_items.specs.Ids.{list_with_ids}
use Rattle.rust_items.specs.Views.{supply_view}
use Rattle.rust_items.proofs.Numbering.{behind}
use Rattle.rust_items.proofs.ids.number_externs.Given as goal

abbrev pub invariant-loop-item : goal.invariant-loop-item
invariant-loop-item l =
    list_with_ids (map extern_item_view l.fn.items) (supply_view l.fn.supply)
    ≡ behind (map extern_item_view (take l.item-index l.items)) (list_with_ids (map extern_item_view (drop l.item-index l.items)) (supply_view l.supply))
