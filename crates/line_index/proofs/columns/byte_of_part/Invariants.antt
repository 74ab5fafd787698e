use Rattle.std.proofs.Common.{◌≡◌, ◌+◌, length}
use Rattle.line_index.specs.Points as spec
use Rattle.line_index.proofs.columns.byte_of_part.Given as goal

abbrev pub invariant-loop-left : goal.invariant-loop-left
invariant-loop-left l = (l.at + spec.bytes_before l.style 0 l.column l.left ≡ spec.bytes_before l.style 0 l.initial.column l.initial.left) × (l.at + length l.left ≡ length l.initial.left)

abbrev pub decreases-loop-left : goal.decreases-loop-left
decreases-loop-left l = length l.left
