-- What may be wrong at a place of a text.
use Rattle.std.specs.Prelude.{ℕ, List, [], ◌∷◌, Option, Some, None}
use Rattle.hir_input.specs.declared.ast.PathNode.{PathNode}
use Rattle.hir_input.specs.declared.ast.PathNode.TheVariants.{Readable, Unreadable}
use Rattle.rust_items.specs.declared.log.Problem.{Problem}
use Rattle.rust_items.specs.declared.log.ProblemKind.{ProblemKind}
use Rattle.rust_items.specs.declared.log.ProblemKind.TheVariants as read
use Rattle.source_problems.specs.declared.problem.SourceProblem.{SourceProblem}
use Rattle.source_problems.specs.declared.problem.SourceProblemKind.{SourceProblemKind}
use Rattle.source_problems.specs.declared.problem.SourceProblemKind.TheVariants as kind

abbrev pub problem : SourceProblemKind → ℕ → SourceProblem
problem kind at = record { at = at; kind = kind }

-- the reader's kind of problem, among those that are told
abbrev pub told_kind : ProblemKind → SourceProblemKind
told_kind read.NoItem = kind.NoItem
told_kind read.Unmatched = kind.Unmatched
told_kind read.Unfinished = kind.Unfinished
told_kind read.Nameless = kind.Nameless
told_kind read.Unterminated = kind.Unterminated
told_kind read.TooDeep = kind.TooDeep

-- what the reader of items tells
abbrev pub told_problem : Problem → SourceProblem
told_problem p = problem (told_kind p.kind) p.at

-- a path that is written and has no meaning
abbrev pub path_problems : SourceProblemKind → ℕ → Option PathNode → List SourceProblem
path_problems kind at None = []
path_problems kind at (Some (Readable p)) = []
path_problems kind at (Some Unreadable) = problem kind at ∷ []
