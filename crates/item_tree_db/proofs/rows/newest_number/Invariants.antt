use Rattle.std.proofs.Common.{◌≡◌, max, drop}
use Rattle.item_tree_db.proofs.Common.{newest_number}
use Rattle.item_tree_db.proofs.rows.newest_number.Given as goal

abbrev pub invariant-loop-row : goal.invariant-loop-row
invariant-loop-row l = max l.greatest (newest_number (drop l.row-index l.rows)) ≡ newest_number l.rows
