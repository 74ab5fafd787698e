use Rattle.std.proofs.Common.{◌≡◌, ◌++◌, map, take, drop}
use Rattle.item_tree_db.proofs.Common.{settled_row, empty_row, Row}
use Rattle.item_tree_db.proofs.rows.settle_first.Given as goal

abbrev pub invariant-loop-row : goal.invariant-loop-row
invariant-loop-row l = let f : Row → Row = settled_row l.number (empty_row l.start) in take l.row-index l.rows ++ map f (drop l.row-index l.rows) ≡ map f l.fn.rows
