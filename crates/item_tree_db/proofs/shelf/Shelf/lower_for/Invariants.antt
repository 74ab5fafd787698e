use Rattle.std.proofs.Common.{◌≡◌, ◌++◌, Some}
use Rattle.item_tree_db.proofs.Common.{AllByRecursion, crate_view, fresh_of, PlacesFit}
use Rattle.item_tree_db.proofs.Shelves.{SlotFits, fresh_each}
use Rattle.item_tree_db.proofs.shelf.Shelf.lower_for.Given as goal

abbrev pub invariant-loop-place : goal.invariant-loop-place
invariant-loop-place l =
    let krate = Some (crate_view l.krate) in
    let all = fresh_each (fresh_of l.number l.skipped krate) in record {
      fresh : l.fresh.items ++ all l.place-iterator ≡ all l.self;
      fits : AllByRecursion (SlotFits l.skipped krate) l.place-iterator → PlacesFit l.skipped krate l.self;
    }
