use Rattle.std.proofs.Common.{◌≡◌, ◌≤◌, ◌+◌, ◌*◌, length}
use Rattle.line_index.specs.Inner as spec
use Rattle.line_index.proofs.lists.column_behind.Given as goal

abbrev pub invariant-loop-left : goal.invariant-loop-left
invariant-loop-left l =
    ((spec.position_behind l.units l.start l.left).column + l.count ≡ (spec.position_behind l.units l.start l.initial.left).column) × (l.count + 2 * length l.left ≤ 2 * length l.initial.left)

abbrev pub decreases-loop-left : goal.decreases-loop-left
decreases-loop-left l = length l.left
