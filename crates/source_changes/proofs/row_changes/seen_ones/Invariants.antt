use Rattle.std.proofs.Common.{◌≡◌, true, map, take}
use Rattle.source_changes.specs.RowChanges.{seen_changes}
use Rattle.source_changes.proofs.Common.{row_change_view}
use Rattle.source_changes.proofs.row_changes.seen_ones.Given as goal

abbrev pub invariant-loop-change : goal.invariant-loop-change
invariant-loop-change l = map row_change_view l.seen.items ≡ seen_changes true (map row_change_view (take l.change-index l.changes))
