use Rattle.std.proofs.Common.{◌≡◌, ◌≤◌, ◌+◌, length}
use Rattle.line_index.specs.Points as spec
use Rattle.line_index.proofs.columns.rest_units.Given as goal

abbrev pub invariant-loop-left : goal.invariant-loop-left
invariant-loop-left l = (l.count + spec.rest_units l.units l.left ≡ spec.rest_units l.units l.initial.left) × (l.count + length l.left ≤ length l.initial.left)

abbrev pub decreases-loop-left : goal.decreases-loop-left
decreases-loop-left l = length l.left
