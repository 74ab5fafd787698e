use Rattle.std.proofs.Common.{◌≡◌, ◌≤◌, ◌+◌, ◌*◌, length}
use Rattle.std.specs.List.{sum_by}
use Rattle.line_index.specs.Points as spec
use Rattle.line_index.proofs.bytes.units_of.Given as goal

abbrev pub invariant-loop-left : goal.invariant-loop-left
invariant-loop-left l = (l.count + sum_by (spec.column_units l.style) l.left ≡ sum_by (spec.column_units l.style) l.bytes) × (l.count + 2 * length l.left ≤ 2 * length l.bytes)

abbrev pub decreases-loop-left : goal.decreases-loop-left
decreases-loop-left l = length l.left
