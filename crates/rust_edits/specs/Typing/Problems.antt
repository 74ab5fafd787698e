-- Where problems stand.
use Rattle.std.specs.Prelude.{◌≤◌, ℕ, List, length, All}
use Rattle.hir_input.specs.declared.edition.EditionYear.{EditionYear}
use Rattle.rust_items.specs.SourceFiles.{FileView, IsFileView}

-- The problems that are told of a text stand in it, or at its end.
abbrev pub ProblemsStand : Type 0
ProblemsStand = (edition : EditionYear) (text : List ℕ) (read : FileView) → IsFileView edition text read → All (λ p. p.at ≤ length text) read.problems
