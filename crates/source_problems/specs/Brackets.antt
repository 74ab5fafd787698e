-- What is wrong with the brackets of a text: what has to be mended in it.
use Rattle.std.specs.Prelude.{ℕ, List, map}
use Rattle.rust_mended.specs.declared.edit.Edit.{Edit}
use Rattle.rust_mended.specs.declared.edit.EditKind.{EditKind}
use Rattle.rust_mended.specs.declared.edit.EditKind.TheVariants as edit
use Rattle.rust_mended.specs.Texts.{edits}
use Rattle.source_problems.specs.declared.problem.SourceProblem.{SourceProblem}
use Rattle.source_problems.specs.declared.problem.SourceProblemKind.{SourceProblemKind}
use Rattle.source_problems.specs.declared.problem.SourceProblemKind.TheVariants as kind
use Rattle.source_problems.specs.Problems.{problem}

-- a bracket for which a closer is put, a closer that is left out, and one that closes a bracket of another kind
abbrev pub mended_kind : EditKind → SourceProblemKind
mended_kind (edit.Put b) = kind.Unclosed
mended_kind edit.Leave = kind.Unmatched
mended_kind (edit.Turn b) = kind.Mismatched

-- what an edit mends
abbrev pub mended_problem : Edit → SourceProblem
mended_problem e = problem (mended_kind e.kind) e.told

-- what is wrong with the brackets of a text
abbrev pub bracket_problems : List ℕ → List SourceProblem
bracket_problems text = map mended_problem (edits text)
