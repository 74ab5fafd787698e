-- What the passes over items do.
use Rattle.std.specs.Prelude.{◌≡◌, List, ◌++◌}
use Rattle.hir_input.specs.Syntax.{ItemView}
use Rattle.rust_items.specs.declared.source_file.ItemPlace.{ItemPlace}
use Rattle.source_problems.specs.declared.problem.Found.{Found}
use Rattle.source_problems.specs.declared.problem.SourceProblem.{SourceProblem}
use Rattle.source_problems.specs.Items.{placed_problems}

-- behind these problems come those of these items, which take their places, whatever items come next
abbrev pub Walks : List ItemView → List SourceProblem → List ItemPlace → List SourceProblem → List ItemPlace → Type 0
Walks is before places after left = (more : List ItemView) → before ++ placed_problems (is ++ more) places ≡ after ++ placed_problems more left

-- behind what was found come these problems, and more of it would stand at the same place
abbrev pub AddsHere : Found → Found → List SourceProblem → Type 0
AddsHere old new more = (new.at ≡ old.at) × (new.problems.items ≡ old.problems.items ++ more)
