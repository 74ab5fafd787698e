use Rattle.std.proofs.Common.{◌≡◌, ◌++◌, length}
use Rattle.std.specs.List.{flat_map}
use Rattle.rust_mended.specs.Steps.{written_marks}
use Rattle.rust_mended.specs.Texts.{mending_edit, edits}
use Rattle.rust_mended.proofs.text.edits.Given as goal

abbrev pub invariant-marks : goal.invariant-marks
invariant-marks l = l.edits.items ++ flat_map mending_edit (written_marks l.marks.last l.marked.items l.opened.items) ≡ edits l.text

abbrev pub decreases-marks : goal.decreases-marks
decreases-marks l = length l.marked.items
