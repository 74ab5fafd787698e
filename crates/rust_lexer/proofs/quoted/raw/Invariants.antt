use Rattle.std.proofs.Common.{◌≡◌, ◌+◌, length}
use Rattle.rust_lexer.proofs.Common.{raw}
use Rattle.rust_lexer.proofs.quoted.raw.Given as goal

abbrev pub invariant-loop-z : goal.invariant-loop-z
invariant-loop-z l = (raw l.hashes l.count l.z ≡ raw l.hashes l.start l.initial.z) × (l.count + length l.z ≡ l.start + length l.initial.z)

abbrev pub decreases-loop-z : goal.decreases-loop-z
decreases-loop-z l = length l.z
