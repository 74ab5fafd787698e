use Rattle.source_listing.proofs.Common.{◌≡◌, map, take, view, problem_objects}
use Rattle.source_listing.proofs.problems.problem_items.Given as goal

abbrev pub invariant-loop-problem : goal.invariant-loop-problem
invariant-loop-problem l = (map view l.items.items ≡ problem_objects l.fn.units l.fn.text (take l.problem-index l.problems)) × (l.lines ≡ l.fn.text)
