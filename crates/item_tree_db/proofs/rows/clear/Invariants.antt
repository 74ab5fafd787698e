use Rattle.std.proofs.Common.{◌≡◌, ◌++◌, map, take, drop}
use Rattle.item_tree_db.proofs.Common.{settled_row, empty_row, Row}
use Rattle.item_tree_db.proofs.rows.clear.Given as goal

abbrev pub invariant-loop-row : goal.invariant-loop-row
invariant-loop-row l = let f : Row → Row = λ row. settled_row l.number row (empty_row l.number) in take l.row-index l.rows ++ map f (drop l.row-index l.rows) ≡ map f l.fn.rows
