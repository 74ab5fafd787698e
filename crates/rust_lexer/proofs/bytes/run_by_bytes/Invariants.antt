use Rattle.std.proofs.Common.{◌≡◌, ◌+◌, length}
use Rattle.rust_lexer.proofs.Common.{run_length}
use Rattle.rust_lexer.proofs.bytes.run_by_bytes.Given as goal

abbrev pub invariant-loop-z : goal.invariant-loop-z
invariant-loop-z l = (l.count + run_length l.class l.z ≡ run_length l.class l.initial.z) × (l.count + length l.z ≡ length l.initial.z)

abbrev pub decreases-loop-z : goal.decreases-loop-z
decreases-loop-z l = length l.z
