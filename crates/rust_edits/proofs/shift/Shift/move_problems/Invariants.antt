use Rattle.std.proofs.Common.{◌≡◌, ◌++◌, map, take, drop}
use Rattle.rust_edits.proofs.Common.{has_problem, shifted_problem, or_kept}
use Rattle.rust_edits.proofs.shift.Shift.move_problems.Given as goal

abbrev pub invariant-loop-problem : goal.invariant-loop-problem
invariant-loop-problem l =
    let f = or_kept (has_problem l.self) (shifted_problem l.self) in take l.problem-index l.problems ++ map f (drop l.problem-index l.problems) ≡ map f l.fn.problems
