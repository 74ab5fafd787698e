use Rattle.std.proofs.Common.{◌≡◌, map, take}
use Rattle.source_changes.proofs.Common.{text_row_view, labelled_view, with_label}
use Rattle.source_changes.proofs.labelled.label_rows.Given as goal

abbrev pub invariant-loop-row : goal.invariant-loop-row
invariant-loop-row l = map labelled_view l.items.items ≡ map with_label (map text_row_view (take l.row-index l.rows))
