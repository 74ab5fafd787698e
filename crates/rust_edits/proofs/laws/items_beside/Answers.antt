use Rattle.rust_edits.proofs.ItemJoins.OpenJoin.{open_items_end}
use Rattle.rust_edits.proofs.ItemJoins.Joins.{items_join, inside_join}
use Rattle.rust_edits.proofs.ItemJoins.DamagedItems.{items_before, items_behind, open_behind, lists_before}
use Rattle.rust_edits.proofs.laws.items_beside.Goals as goal

pub returns : goal.returns
returns c = record {
  items_join = items_join;
  inside_join = inside_join;
  open_items_end = open_items_end;
  items_before = items_before;
  items_behind = items_behind;
  open_behind = open_behind;
  lists_before = lists_before;
}
