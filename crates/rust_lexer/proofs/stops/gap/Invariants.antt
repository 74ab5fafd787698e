use Rattle.std.proofs.Common.{◌≡◌, ◌+◌, length}
use Rattle.rust_lexer.proofs.Common.{gap}
use Rattle.rust_lexer.proofs.stops.gap.Given as goal

abbrev pub invariant-loop-z : goal.invariant-loop-z
invariant-loop-z l = (l.count + gap l.z ≡ gap l.initial.z) × (l.count + length l.z ≡ length l.initial.z)

abbrev pub decreases-loop-z : goal.decreases-loop-z
decreases-loop-z l = length l.z
