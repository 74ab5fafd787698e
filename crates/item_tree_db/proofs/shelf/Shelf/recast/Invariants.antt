use Rattle.std.proofs.Common.{◌≡◌}
use Rattle.item_tree_db.proofs.Common.{Place, placed_at, recast_each}
use Rattle.item_tree_db.proofs.shelf.Shelf.recast.Given as goal

abbrev pub invariant-loop-place : goal.invariant-loop-place
invariant-loop-place l = (q : Place) → recast_each l.number l.index l.place-iterator.rest.items q (placed_at l.self q) ≡ recast_each l.number l.index l.fn.fresh.items q (placed_at l.fn.self q)
