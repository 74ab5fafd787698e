use Rattle.std.proofs.Common.{◌≡◌, map, take}
use Rattle.rust_items.specs.LineEnds.{place_by}
use Rattle.source_problems.specs.Texts.{problem_moved_by}
use Rattle.source_problems.proofs.text.moved_problems.Given as goal

abbrev pub invariant-loop-problem : goal.invariant-loop-problem
invariant-loop-problem l = l.moved.items ≡ map (problem_moved_by (place_by l.ends.len l.ends.returns.items)) (take l.problem-index l.problems)
