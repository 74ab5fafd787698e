use Rattle.std.proofs.Common.{◌≡◌, ◌+◌, length}
use Rattle.line_index.specs.Points as spec
use Rattle.line_index.proofs.columns.byte_in_line.Given as goal

abbrev pub invariant-loop-behind : goal.invariant-loop-behind
invariant-loop-behind l = (l.at + spec.bytes_before l.style 0 l.column l.left ≡ spec.bytes_before l.style 0 l.initial.column l.initial.left) × (l.at + length l.left ≡ length l.initial.left)

abbrev pub decreases-loop-behind : goal.decreases-loop-behind
decreases-loop-behind l = length l.left
