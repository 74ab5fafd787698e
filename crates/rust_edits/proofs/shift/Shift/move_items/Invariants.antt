use Rattle.std.proofs.Common.{◌≡◌, ◌++◌, map, take, drop}
use Rattle.rust_edits.proofs.Common.{has_item, shifted_item, or_kept}
use Rattle.rust_edits.proofs.shift.Shift.move_items.Given as goal

abbrev pub invariant-loop-item : goal.invariant-loop-item
invariant-loop-item l =
    let f = or_kept (has_item l.self) (shifted_item l.self) in take l.item-index l.items ++ map f (drop l.item-index l.items) ≡ map f l.fn.items
