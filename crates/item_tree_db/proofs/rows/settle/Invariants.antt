use Rattle.std.proofs.Common.{◌≡◌, ◌++◌, take, drop, length}
use Rattle.item_tree_db.proofs.Common.{settle_all}
use Rattle.item_tree_db.proofs.rows.settle.Given as goal

abbrev pub invariant-loop-i : goal.invariant-loop-i
invariant-loop-i l = record {
  long : length l.fresh.items ≡ length l.rows;
  rest : take l.i l.rows ++ settle_all l.number (drop l.i l.rows) (drop l.i l.fresh.items) ≡ settle_all l.number l.fn.rows l.fn.fresh.items;
}
