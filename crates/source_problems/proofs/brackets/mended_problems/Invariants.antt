use Rattle.std.proofs.Common.{◌≡◌, map, take}
use Rattle.source_problems.specs.Brackets.{mended_problem}
use Rattle.source_problems.proofs.brackets.mended_problems.Given as goal

abbrev pub invariant-loop-edit : goal.invariant-loop-edit
invariant-loop-edit l = l.problems.items ≡ map mended_problem (take l.edit-index l.edits)
