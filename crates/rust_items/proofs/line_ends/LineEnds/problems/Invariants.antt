use Rattle.std.proofs.Common.{◌≡◌, map, take}
use Rattle.rust_items.proofs.Common.{place_by, moved_problem}
use Rattle.rust_items.proofs.line_ends.LineEnds.problems.Given as goal

abbrev pub invariant-loop-problem : goal.invariant-loop-problem
invariant-loop-problem l = l.moved.items ≡ map (moved_problem (place_by l.self.len l.self.returns.items)) (take l.problem-index l.problems)
