use Rattle.std.proofs.Common.{◌≡◌, ◌++◌, map, take, string_bytes, flat_map}
use Rattle.tree_walk.specs.Inner.{Outlines.step_line, Steps.step_view}
use Rattle.tree_walk.proofs.lines.push_lines.Given as goal

abbrev pub invariant-loop-step : goal.invariant-loop-step
invariant-loop-step l = string_bytes l.text ≡ string_bytes l.fn.text ++ flat_map (step_line l.tree) (map step_view (take l.step-index l.steps))
