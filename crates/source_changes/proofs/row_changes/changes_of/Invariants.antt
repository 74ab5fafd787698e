use Rattle.std.proofs.Common.{◌≡◌, map, take, flat_map}
use Rattle.source_changes.proofs.Common.{row_change_of, row_change_view, row_match}
use Rattle.source_changes.proofs.row_changes.changes_of.Given as goal

abbrev pub invariant-loop-one : goal.invariant-loop-one
invariant-loop-one g l = map row_change_view l.changes.items ≡ flat_map row_change_of (map row_match (take l.one-index l.found))
