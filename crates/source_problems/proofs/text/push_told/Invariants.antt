use Rattle.std.proofs.Common.{◌≡◌, ◌++◌, map, take}
use Rattle.source_problems.specs.Problems.{told_problem}
use Rattle.source_problems.proofs.text.push_told.Given as goal

abbrev pub invariant-loop-problem : goal.invariant-loop-problem
invariant-loop-problem l = l.problems.items ≡ l.fn.problems.items ++ map told_problem (take l.problem-index l.read)
