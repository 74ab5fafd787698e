-- Rows and changes as plain data, and texts that are told by their tokens.
use Rattle.std.specs.Prelude.{ℕ, List, map}
use Rattle.source_changes.specs.declared.row_changes.Row as code_row
use Rattle.source_changes.specs.declared.row_changes.Change as code_change
use Rattle.source_changes.specs.declared.kept.Skeleton as code_skeleton
use Rattle.source_changes.specs.RowChanges.{TextRow, RowChange}
use Rattle.source_changes.specs.Parts.{Part}
use Rattle.source_changes.specs.Rows.{part_row}
use Rattle.source_changes.specs.Skeletons.{skeleton}
use Rattle.source_changes.specs.Views.{part_view}

-- the texts of the tokens that tell a text
abbrev pub skeleton_view : code_skeleton.Skeleton → List (List ℕ)
skeleton_view s = skeleton s.has_docs s.holes.now s.text.now

-- a row as plain data
abbrev pub text_row_view : code_row.Row → TextRow
text_row_view r = part_row r.has_docs r.text.now (part_view r.part.now) (map part_view r.behind.now)

-- the part of a row as plain data
abbrev pub row_part : code_row.Row → Part
row_part r = part_view r.part.now

-- a change as plain data
abbrev pub row_change_view : code_change.Change → RowChange
row_change_view c = record { kind = c.kind; label = c.label.now; at = c.at; is_hidden = c.is_hidden }
