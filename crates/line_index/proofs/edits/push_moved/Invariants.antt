use Rattle.std.proofs.Common.{◌≡◌, ◌+◌, ◌-◌, ◌++◌, map, take}
use Rattle.line_index.proofs.edits.push_moved.Given as goal

abbrev pub invariant-loop-start : goal.invariant-loop-start
invariant-loop-start l = l.starts.items ≡ l.initial.starts.items ++ map (λ s. s - l.from + l.to) (take l.start-index l.moved)
