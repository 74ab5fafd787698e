use Rattle.std.proofs.Common.{◌≡◌, ◌++◌}
use Rattle.source_problems.proofs.text.problem_list.Given as goal

abbrev pub invariant-loop-problem : goal.invariant-loop-problem
invariant-loop-problem l = l.ordered.items ++ l.problem-iterator ≡ l.known.keys
